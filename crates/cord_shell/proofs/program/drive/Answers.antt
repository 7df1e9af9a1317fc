use Rattle.cord_shell.proofs.program.drive.Goals as goal

pub returns-clause-drives : goal.returns-clause-drives
returns-clause-drives g c = (c.answer-outcome.result.0, c.answer-outcome.ensures.run, c.status.ensures, c.report.ensures)
