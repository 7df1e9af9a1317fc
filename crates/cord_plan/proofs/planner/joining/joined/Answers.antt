use Rattle.cord_plan.proofs.Common.{ap, ◌∙◌, Exprs, append, preceding, nothing, expr_of, choice_view}
use Rattle.cord_plan.proofs.Joined.{more_joined}
use Rattle.cord_plan.proofs.planner.joining.joined.Goals as goal

pub choices-preserved : goal.choices-preserved
choices-preserved c =
    c.in_ok-members.ensures.made
    ∙ (ap (λ (ms : Exprs). append ms (preceding (expr_of (choice_view c.choice-item.result)) nothing)) c.choices.invariant
    ∙ more_joined c.args.choices.now c.choices.choice-index c.choice-item.result c.choices-test.true c.choice-item.is)
