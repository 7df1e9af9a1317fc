use Rattle.std.specs.Prelude.{◌≤◌}
use Rattle.cord_plan.proofs.Common.{map, length, sym, ap, ◌∙◌, arith, take_all, map-map, shape_view, operation_shape, operation_view}
use Rattle.cord_plan.proofs.Pushed.{made_more}
use Rattle.cord_plan.proofs.jumps.shapes_of.Goals as goal

pub loop-operation-preserved : goal.loop-operation-preserved
loop-operation-preserved c = made_more shape_view (λ o. operation_shape (operation_view o)) _ _ _ _ _ _ c.loop-operation-test.true
    c.operation-item.is c.loop-operation.invariant c.in_ok-push.ensures.items c.operation_shape.ensures

pub returns : goal.returns
returns c =
    let over : length c.args.operations.now ≤ c.loop-operation.operation-index = omega arith in
    c.loop-operation.invariant
    ∙ (ap (map (λ o. operation_shape (operation_view o))) (take_all c.loop-operation.operation-index c.args.operations.now over)
    ∙ sym (map-map operation_shape operation_view c.args.operations.now))
