use Rattle.cord_run.proofs.Common.{rules}
use Rattle.cord_run.proofs.runner.ends.close_output.Goals as goal

-- each of these is broken by a must-fail edit
pub returns-in-ReadFailed-clause-closes : goal.returns-in-ReadFailed-clause-closes
returns-in-ReadFailed-clause-closes g c = search rules

pub returns-in-Ok-clause-closes : goal.returns-in-Ok-clause-closes
returns-in-Ok-clause-closes g c = search rules

pub returns-in-Err-clause-closes : goal.returns-in-Err-clause-closes
returns-in-Err-clause-closes g c = search rules

pub returns-in-WriteFailed-clause-closes : goal.returns-in-WriteFailed-clause-closes
returns-in-WriteFailed-clause-closes g c = search rules
