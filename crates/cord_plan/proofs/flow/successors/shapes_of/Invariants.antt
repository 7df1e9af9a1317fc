use Rattle.std.specs.Prelude.{◌≡◌, ◌≤◌, ◌+◌, ◌-◌}
use Rattle.cord_plan.proofs.Common.{map, take, length, vec_len, vec_capacity, shape_of, shape_view}
use Rattle.cord_plan.proofs.flow.successors.shapes_of.Given as goal

abbrev pub invariant-loop-statement : goal.invariant-loop-statement
invariant-loop-statement l = record {
  so_far : map shape_view l.shapes.items ≡ map shape_of (take l.statement-index l.statements);
  room : vec_len l.shapes + (length l.statements - l.statement-index) ≤ vec_capacity l.shapes;
}
