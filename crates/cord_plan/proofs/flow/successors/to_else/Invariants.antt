use Rattle.std.specs.Prelude.{◌≡◌, ◌+◌, ◌≤◌}
use Rattle.cord_plan.proofs.Common.{map, drop, to_else, shape_view}
use Rattle.cord_plan.proofs.flow.successors.to_else.Given as goal

abbrev pub invariant-loop-i : goal.invariant-loop-i
invariant-loop-i l = record {
  few : l.depth ≤ l.i;
  counted : to_else 0 (map shape_view l.shapes) ≡ l.i + to_else l.depth (map shape_view (drop l.i l.shapes));
}
