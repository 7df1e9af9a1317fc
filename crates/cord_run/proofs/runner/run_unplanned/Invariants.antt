use Rattle.cord_run.proofs.Common.{AsWritten}
use Rattle.cord_run.proofs.runner.run_unplanned.Given as goal

abbrev pub ghost-run_by : goal.ghost-run_by
ghost-run_by g a = AsWritten
