use Rattle.cord_meaning.proofs.Common.{start_state, rules}
use Rattle.cord_meaning.proofs.Terminates.{ends}
use Rattle.cord_meaning.proofs.Meant.{end_meant}
use Rattle.cord_meaning.proofs.laws.every_run_ends.Goals as goal

pub returns-clause-ends : goal.returns-clause-ends
returns-clause-ends c = λ limit most statements files. ends (rules limit files) most statements start_state

pub returns-clause-meant : goal.returns-clause-meant
returns-clause-meant c = λ limit most statements files. end_meant (rules limit files) most statements start_state
