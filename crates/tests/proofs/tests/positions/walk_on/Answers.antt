use Rattle.tests.proofs.tests.positions.walk_on.Goals as goal

pub loop-step-preserved : goal.loop-step-preserved
loop-step-preserved c = rw c.next.ensures.cord c.loop-step.invariant
