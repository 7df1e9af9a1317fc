use Rattle.cord.proofs.doubling.+repeated.Given as goal

abbrev pub decreases-repeated : goal.decreases-repeated
decreases-repeated l = l.times
