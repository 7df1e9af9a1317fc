use Rattle.std.proofs.Common.{ap, sym}
use Rattle.cord_shell.specs.Outcomes.{status_of_end}
use Rattle.cord_shell.proofs.outcome.status_of_end.Goals as goal

pub returns-in-Fault : goal.returns-in-Fault
returns-in-Fault c = ap status_of_end (sym c.in-Fault.is)
