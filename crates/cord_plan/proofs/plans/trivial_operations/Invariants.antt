use Rattle.std.specs.Prelude.{◌≡◌, ◌≤◌, ◌+◌, ◌-◌}
use Rattle.cord_plan.proofs.Common.{map, take, length, vec_len, vec_capacity, trivial, operation_view}
use Rattle.cord_plan.proofs.plans.trivial_operations.Given as goal

-- the operations so far are those of the lines so far, with room for those to come
abbrev pub invariant-lines : goal.invariant-lines
invariant-lines l = record {
  so_far : map operation_view l.operations.items ≡ trivial (take l.statement-index l.statements);
  room : vec_len l.operations + (length l.statements - l.statement-index) ≤ vec_capacity l.operations;
}
