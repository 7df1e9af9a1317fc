use Rattle.std.specs.Prelude.{◌≡◌}
use Rattle.cord_plan.proofs.Common.{map, take, operation_view}
use Rattle.cord_plan.proofs.Measuring.{measured_by}
use Rattle.cord_plan.proofs.planner.measure_taken.Given as goal

-- those of the flags so far compute the length alone
abbrev pub invariant-loop-place : goal.invariant-loop-place
invariant-loop-place l = map operation_view l.operations ≡ measured_by (take l.place l.taken) (map operation_view l.initial.operations)
