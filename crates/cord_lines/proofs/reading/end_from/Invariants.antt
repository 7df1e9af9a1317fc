use Rattle.cord_lines.proofs.Common.{after_ends, drop, length, ◌+◌, ◌-◌, ◌≡◌, ◌≤◌}
use Rattle.cord_lines.proofs.reading.end_from.Given as goal

-- the place, and the way from there
abbrev pub invariant-loop-place : goal.invariant-loop-place
invariant-loop-place l = record {
  found : l.place + after_ends l.left (drop l.place l.text) ≡ l.from + after_ends l.n (drop l.from l.text);
  there : l.place ≤ length l.text;
}

abbrev pub decreases-loop-place : goal.decreases-loop-place
decreases-loop-place l = length l.text - l.place
