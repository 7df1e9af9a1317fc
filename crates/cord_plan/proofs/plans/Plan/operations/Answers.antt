use Rattle.cord_plan.proofs.Common.{◌∙◌}
use Rattle.cord_plan.proofs.plans.Plan.operations.Goals as goal

pub returns-clause-listed : goal.returns-clause-listed
returns-clause-listed c = c.deref.ensures.value ∙ c.self.view_is
