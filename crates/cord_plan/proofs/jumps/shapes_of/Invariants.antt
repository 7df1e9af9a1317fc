use Rattle.std.specs.Prelude.{◌≡◌}
use Rattle.cord_plan.proofs.Common.{map, take, shape_view, operation_shape, operation_view}
use Rattle.cord_plan.proofs.jumps.shapes_of.Given as goal

-- the shapes of the operations so far
abbrev pub invariant-loop-operation : goal.invariant-loop-operation
invariant-loop-operation l = map shape_view l.shapes.items ≡ map (λ o. operation_shape (operation_view o)) (take l.operation-index l.operations)
