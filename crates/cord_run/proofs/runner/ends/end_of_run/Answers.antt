use Rattle.cord_run.proofs.Common.{ap, sym, ◌∙◌, Stop, end_at, end_of_run}
use Rattle.cord_run.proofs.runner.ends.end_of_run.Goals as goal

pub returns-in-Fault : goal.returns-in-Fault
returns-in-Fault c = ap (λ (stop : Stop). end_at c.in-Err.stop_at.line stop) (sym c.in-Fault.is) ∙ ap end_of_run (sym c.in-Err.is)

pub returns-in-NoMemory : goal.returns-in-NoMemory
returns-in-NoMemory c = ap (λ (stop : Stop). end_at c.in-Err.stop_at.line stop) (sym c.in-NoMemory.is) ∙ ap end_of_run (sym c.in-Err.is)

pub returns-in-ReadFailed : goal.returns-in-ReadFailed
returns-in-ReadFailed c = ap (λ (stop : Stop). end_at c.in-Err.stop_at.line stop) (sym c.in-ReadFailed.is) ∙ ap end_of_run (sym c.in-Err.is)

pub returns-in-WriteFailed : goal.returns-in-WriteFailed
returns-in-WriteFailed c = ap (λ (stop : Stop). end_at c.in-Err.stop_at.line stop) (sym c.in-WriteFailed.is)
    ∙ ap end_of_run (sym c.in-Err.is)
