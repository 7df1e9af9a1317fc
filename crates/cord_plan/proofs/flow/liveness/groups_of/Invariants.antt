use Rattle.std.specs.Prelude.{◌≡◌}
use Rattle.cord_plan.proofs.Common.{length}
use Rattle.cord_plan.proofs.LivenessTables.{LiveTo}
use Rattle.cord_plan.proofs.flow.liveness.groups_of.Given as goal

abbrev pub invariant-loop-group : goal.invariant-loop-group
invariant-loop-group l = record {
  size : length l.groups.items ≡ l.group;
  live : LiveTo l.statements l.numbering l.group l.groups.items;
}
