use Rattle.cord_run.proofs.Common.{rules}
use Rattle.cord_run.proofs.targets.files.opened_length.Goals as goal

-- a must-fail edit breaks it
pub returns-clause-asked : goal.returns-clause-asked
returns-clause-asked g c = search rules
