use Rattle.cord_lines.proofs.Common.{amount, plus, take, total_by, ◌≡◌, ◌≤◌}
use Rattle.cord_lines.proofs.blocks.last_with.Given as goal

abbrev pub invariant-loop-index : goal.invariant-loop-index
invariant-loop-index g l = record {
  sum : l.before ≡ plus l.fn.others (total_by g.T.Counted.part (take l.index l.parts));
  most : amount l.measure l.before ≤ l.target;
}
