use Rattle.cord_plan.proofs.Common.{arith, refl, choice_view}
use Rattle.cord_plan.specs.Inlined as plain
use Rattle.cord_plan.proofs.Pushed.{made_more}
use Rattle.cord_plan.proofs.planner.joining.all_named.Goals as goal

pub loop-name-preserved : goal.loop-name-preserved
loop-name-preserved c =
    let before = c.loop-name.invariant in
    let push = c.push_reserved.ensures in
    record {
      so_far = made_more choice_view (λ x. plain.named x) _ _ _ _ _ _ c.loop-name-test.true c.name-item.is before.so_far push.items refl;
      room = omega (arith, c.loop-name-test.true, before.room, push.len, push.capacity);
    }
