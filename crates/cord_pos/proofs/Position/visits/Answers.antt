use Rattle.cord_pos.proofs.Common.{rules}
use Rattle.cord_pos.proofs.Position.visits.Goals as goal

pub returns : goal.returns
returns c = search rules
