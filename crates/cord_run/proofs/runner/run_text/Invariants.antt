use Rattle.cord_run.proofs.Common.{ByPlan}
use Rattle.cord_run.proofs.runner.run_text.Given as goal

abbrev pub ghost-run_by : goal.ghost-run_by
ghost-run_by g a = ByPlan
