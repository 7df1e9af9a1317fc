use Rattle.cord_lines.proofs.Common.{after_ends, drop, ◌+◌, ◌≡◌}
use Rattle.cord_lines.proofs.reading.end_in_piece.Given as goal

abbrev pub invariant-loop-place : goal.invariant-loop-place
invariant-loop-place l = l.place + after_ends l.left (drop l.place l.bytes) ≡ after_ends l.n l.bytes
