use Rattle.cord_run.proofs.Readers.{plan_alike}
use Rattle.cord_run.proofs.laws.plans_fail_where_their_scripts_do.Goals as goal

pub returns : goal.returns
returns c = plan_alike
