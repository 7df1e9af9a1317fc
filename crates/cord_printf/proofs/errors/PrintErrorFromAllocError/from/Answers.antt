use Rattle.std.proofs.Common.{rules}
use Rattle.cord_printf.proofs.errors.PrintErrorFromAllocError.from.Goals as goal

pub returns : goal.returns
returns c = search rules
