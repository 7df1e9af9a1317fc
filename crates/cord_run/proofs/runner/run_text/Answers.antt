use Rattle.cord_run.proofs.Common.{rules}
use Rattle.cord_run.proofs.runner.run_text.Goals as goal

-- a must-fail edit breaks it
pub returns-in-Err : goal.returns-in-Err
returns-in-Err c = search rules
