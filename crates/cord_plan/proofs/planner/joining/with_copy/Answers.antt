use Rattle.cord_plan.proofs.Common.{ap, ◌∙◌, expr_view, members_view}
use Rattle.cord_plan.proofs.ExprViews.{view-Cat}
use Rattle.cord_plan.proofs.Joined.{added_all}
use Rattle.cord_plan.proofs.Sharing.{made_as}
use Rattle.cord_plan.proofs.planner.joining.with_copy.Goals as goal

pub returns-in-Cat : goal.returns-in-Cat
returns-in-Cat c =
    record {
      made = made_as c.with_shared.result _ _
          (added_all (members_view c.args.members) (members_view c.in-Cat.inner) (expr_view c.args.expression.now)
          (ap expr_view c.in-Cat.is ∙ view-Cat c.in-Cat.inner)) c.with_shared.ensures.made;
    }
