use Rattle.std.proofs.Common.{rules}
use Rattle.cord_printf.proofs.pieces.Literal.as_slice.Goals as goal

pub returns : goal.returns
returns c = search rules
