use Rattle.cord_pos.proofs.Common.{rules}
use Rattle.cord_pos.proofs.Position.go_to.Goals as goal

pub invariant_of-self : goal.invariant_of-self
invariant_of-self c = search rules
