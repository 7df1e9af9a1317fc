use Rattle.cord_run.proofs.Common.{length, drop, IsCatting, ◌≤◌, ◌-◌}
use Rattle.cord_run.proofs.expressions.joins.join_all.Given as goal

-- the text so far and that of the cords that are left are the whole
abbrev pub invariant-loop-place : goal.invariant-loop-place
invariant-loop-place l = record {
  catting : IsCatting l.cords (drop l.place l.cords) l.all;
  within : l.place ≤ length l.cords;
}

abbrev pub decreases-loop-place : goal.decreases-loop-place
decreases-loop-place l = length l.cords - l.place
