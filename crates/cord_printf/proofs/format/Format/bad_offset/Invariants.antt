use Rattle.std.proofs.Common.{◌≡◌, ◌++◌, List, ℕ, length}
use Rattle.cord_printf.specs.Format.{HasPieces}
use Rattle.cord_printf.specs.declared.pieces.Piece.{Piece}
use Rattle.cord_printf.proofs.format.Format.bad_offset.Given as goal

abbrev pub invariant-pieces : goal.invariant-pieces
invariant-pieces l = record {
  split : (prefix : List ℕ) × (l.bytes ≡ prefix ++ l.rest);
  read : (pieces : List Piece) × HasPieces l.bytes pieces l.rest;
}

abbrev pub decreases-pieces : goal.decreases-pieces
decreases-pieces l = length l.rest
