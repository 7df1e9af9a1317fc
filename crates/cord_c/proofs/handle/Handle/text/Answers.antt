use Rattle.std.proofs.Common.{rules}
use Rattle.cord_c.proofs.handle.Handle.text.Goals as goal

pub returns-in-Some : goal.returns-in-Some
returns-in-Some c = search rules
