use Rattle.cord_pos.proofs.Common.{rules}
use Rattle.cord_pos.proofs.visited.Visits.visit.Goals as goal

pub returns-clause-count : goal.returns-clause-count
returns-clause-count c = search rules
