use Rattle.std.proofs.Common.{ap, sym}
use Rattle.cord_shell.specs.inner.Outcomes.{outcome_of}
use Rattle.cord_shell.proofs.outcome.Outcome.of_run.Goals as goal

pub returns-in-Ok : goal.returns-in-Ok
returns-in-Ok c = ap outcome_of (sym c.in-Ok.is)
