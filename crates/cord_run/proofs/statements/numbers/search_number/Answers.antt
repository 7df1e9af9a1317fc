use Rattle.cord_run.proofs.Common.{rules}
use Rattle.cord_run.proofs.statements.numbers.search_number.Goals as goal

pub returns-in-Chr-clause-found : goal.returns-in-Chr-clause-found
returns-in-Chr-clause-found g c = search rules fits 4000

pub returns-clause-found : goal.returns-clause-found
returns-clause-found g c = search rules fits 4000
