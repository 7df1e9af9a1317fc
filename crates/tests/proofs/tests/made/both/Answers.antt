use Rattle.tests.proofs.tests.made.both.Goals as goal

pub returns : goal.returns
returns g c = λ lengths long. c.in-Ok.ensures.over.fits lengths (c.requires.left lengths long) (c.requires.right lengths long)
