use Rattle.cord_run.proofs.Paths.{few_read}
use Rattle.cord_run.proofs.limits.runs_have_few_files.Goals as goal

pub returns-clause-paths : goal.returns-clause-paths
returns-clause-paths c = few_read
