use Rattle.std.proofs.Common.{◌≡◌, ◌++◌, List, ℕ, length}
use Rattle.cord_printf.specs.Format.{HasPieces}
use Rattle.cord_printf.proofs.format.Format.parse.Given as goal

abbrev pub invariant-pieces : goal.invariant-pieces
invariant-pieces l = record {
  split : (prefix : List ℕ) × (l.bytes ≡ prefix ++ l.rest);
  read : HasPieces l.bytes l.pieces.items l.rest;
}

abbrev pub decreases-pieces : goal.decreases-pieces
decreases-pieces l = length l.rest
