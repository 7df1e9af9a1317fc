use Rattle.cord_run.proofs.Common.{ArePreceding, ◌≡◌}
use Rattle.cord_run.proofs.expressions.joins.short_leaves.Given as goal

-- the cords so far are in front
abbrev pub invariant-loop-cord : goal.invariant-loop-cord
invariant-loop-cord l = record {
  prefix : ArePreceding l.cords l.cord-index l.bytes.items;
  counted : l.count ≡ l.cord-index;
}
