use Rattle.std.specs.Prelude.{◌∷◌}
use Rattle.cord_plan.proofs.Common.{[]}
use Rattle.cord_plan.proofs.ExprViews.{view-Two}
use Rattle.cord_plan.proofs.expressions.Rest.two.Goals as goal

pub returns : goal.returns
returns c = view-Two (record { members = c.args.first ∷ c.args.second ∷ [] })
