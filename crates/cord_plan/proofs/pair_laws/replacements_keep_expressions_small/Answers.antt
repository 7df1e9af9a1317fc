use Rattle.cord_plan.proofs.Pairs.{stays_small}
use Rattle.cord_plan.proofs.pair_laws.replacements_keep_expressions_small.Goals as goal

pub returns : goal.returns
returns c = λ s later a b t e pair. stays_small s later a b t e pair
