use Rattle.cord_plan.proofs.Common.{exprs}
use Rattle.cord_plan.proofs.Flat.{exprs_flat, operations_flat}
use Rattle.cord_plan.proofs.laws.no_cat_stands_in_a_cat.Goals as goal

pub returns : goal.returns
returns c = λ s later p o e. operations_flat later (exprs s later) 0 s (exprs s later) (exprs_flat s later) p o e
