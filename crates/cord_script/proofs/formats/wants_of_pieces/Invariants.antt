use Rattle.std.specs.Prelude.{◌≡◌, ◌++◌}
use Rattle.cord_script.proofs.Common.{drop, wants_of_pieces}
use Rattle.cord_script.proofs.formats.wants_of_pieces.Given as goal

abbrev pub invariant-loop-piece : goal.invariant-loop-piece
invariant-loop-piece l = wants_of_pieces l.pieces ≡ l.wants.items ++ wants_of_pieces (drop l.piece-index l.pieces)
