use Rattle.cord_lines.proofs.Common.{AreFew, length, total_by}
use Rattle.cord_lines.proofs.Grouping.{GroupsSoFar}
use Rattle.cord_lines.proofs.blocks.sums_of.Given as goal

abbrev pub invariant-loop-rest : goal.invariant-loop-rest
invariant-loop-rest g l = record {
  groups : GroupsSoFar g.T.Counted.part l.sums.items l.parts l.rest;
  few : AreFew (total_by g.T.Counted.part l.rest);
}

abbrev pub decreases-loop-rest : goal.decreases-loop-rest
decreases-loop-rest g l = length l.rest
