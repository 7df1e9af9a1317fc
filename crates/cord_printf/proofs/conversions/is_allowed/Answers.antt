use Rattle.std.proofs.Common.{rules}
use Rattle.cord_printf.proofs.conversions.is_allowed.Goals as goal

pub returns-in-Signed : goal.returns-in-Signed
returns-in-Signed c = search rules
