use Rattle.cord_plan.proofs.Common.{sym, ap, ◌∙◌, rest_view}
use Rattle.cord_plan.proofs.ExprViews.{view-One, view-Two}
use Rattle.cord_plan.proofs.expressions.Rest.as_slice.Goals as goal

pub returns-in-One : goal.returns-in-One
returns-in-One c = sym (ap rest_view c.in-One.is ∙ view-One c.in-One.one)

pub returns-in-Two : goal.returns-in-Two
returns-in-Two c = sym (ap rest_view c.in-Two.is ∙ view-Two c.in-Two.two)
