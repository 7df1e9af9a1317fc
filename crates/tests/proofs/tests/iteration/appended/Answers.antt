use Rattle.tests.proofs.tests.iteration.appended.Goals as goal

pub loop-k-preserved : goal.loop-k-preserved
loop-k-preserved g c = λ lengths long. c.in-Ok.ensures.over.fits lengths (c.loop-k.invariant lengths long)
