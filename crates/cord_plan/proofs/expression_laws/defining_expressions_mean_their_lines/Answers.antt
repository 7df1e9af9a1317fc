use Rattle.cord_plan.proofs.Common.{ℕ, List, Option, Some, subst, target_of, Expr}
use Rattle.cord_plan.proofs.DefiningExpressions.{Means, defining_means}
use Rattle.cord_plan.proofs.expression_laws.defining_expressions_mean_their_lines.Goals as goal

pub returns-clause-gives : goal.returns-clause-gives
returns-clause-gives c = λ limit files l s e target is to.
    subst (λ (t : Option (List ℕ)). Means limit s files l (Some e) t) to
    (subst (λ (o : Option Expr). Means limit s files l o (target_of l)) is (defining_means limit s files l))

pub returns-clause-puts : goal.returns-clause-puts
returns-clause-puts c = λ limit files l s e is to.
    subst (λ (t : Option (List ℕ)). Means limit s files l (Some e) t) to
    (subst (λ (o : Option Expr). Means limit s files l o (target_of l)) is (defining_means limit s files l))
