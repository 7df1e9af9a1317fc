use Rattle.cord_plan.proofs.Common.{Option, Some, subst, Expr, defining}
use Rattle.cord_plan.proofs.Flattening.{flattened, MeanSame, replaced_means}
use Rattle.cord_plan.proofs.expression_laws.flattened_cats_mean_the_nested.Goals as goal

pub returns-clause-flattened : goal.returns-clause-flattened
returns-clause-flattened c = λ limit s es text h. flattened limit s es text h

pub returns-clause-replaced : goal.returns-clause-replaced
returns-clause-replaced c = λ limit s l es e o texts is defining_is.
    subst (λ (q : Option Expr). MeanSame limit s (Some e) q) defining_is
    (subst (λ (q : Option Expr). MeanSame limit s q (defining l)) is (replaced_means limit s l es texts))
