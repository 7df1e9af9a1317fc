use Rattle.cord_pos.proofs.Common.{rules}
use Rattle.cord_pos.proofs.Position.index.Goals as goal

pub returns-clause-value : goal.returns-clause-value
returns-clause-value c = search rules
