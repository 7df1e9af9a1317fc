use Rattle.cord_plan.proofs.Common.{rules}
use Rattle.cord_plan.proofs.plans.Plan.has_control.Goals as goal

-- a must-fail edit breaks it
pub returns : goal.returns
returns c = search rules
