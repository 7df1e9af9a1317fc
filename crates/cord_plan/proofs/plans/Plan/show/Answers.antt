use Rattle.cord_plan.proofs.Common.{rules}
use Rattle.cord_plan.proofs.plans.Plan.show.Goals as goal

-- a must-fail edit breaks it
pub returns-clause-writes : goal.returns-clause-writes
returns-clause-writes g c = search rules
