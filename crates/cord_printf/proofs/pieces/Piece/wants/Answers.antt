use Rattle.std.proofs.Common.{rules}
use Rattle.cord_printf.proofs.pieces.Piece.wants.Goals as goal

pub returns-in-Cord : goal.returns-in-Cord
returns-in-Cord c = search rules
