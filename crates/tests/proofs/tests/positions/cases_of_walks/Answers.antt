use Rattle.tests.proofs.tests.positions.cases_of_walks.Goals as goal

pub walk-requires : goal.walk-requires
walk-requires g c = rw c.set.ensures.cord c.made-cord.ensures
