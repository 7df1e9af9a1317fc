use Rattle.cord_lines.proofs.Common.{AreBlocksOf, drop, take, ◌-◌, ◌≤◌}
use Rattle.cord_lines.proofs.cutting.cut.Given as goal

abbrev pub invariant-loop-place : goal.invariant-loop-place
invariant-loop-place l = record {
  cut : AreBlocksOf l.blocks.items (take (l.place - l.from) (drop l.from l.text));
  from : l.from ≤ l.place;
  to : l.place ≤ l.to;
}

abbrev pub decreases-loop-place : goal.decreases-loop-place
decreases-loop-place l = l.to - l.place
