use Rattle.cord_plan.proofs.Common.{arith, shape_of, shape_view}
use Rattle.cord_plan.proofs.Pushed.{made_more}
use Rattle.cord_plan.proofs.flow.successors.shapes_of.Goals as goal

pub loop-statement-preserved : goal.loop-statement-preserved
loop-statement-preserved c =
    let before = c.loop-statement.invariant in
    let push = c.push_reserved.ensures in
    record {
      so_far = made_more shape_view shape_of _ _ _ _ _ _ c.loop-statement-test.true c.statement-item.is before.so_far push.items c.shape_of.ensures;
      room = omega (arith, c.loop-statement-test.true, before.room, push.len, push.capacity);
    }
