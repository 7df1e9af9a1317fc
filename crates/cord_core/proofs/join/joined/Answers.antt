use Rattle.std.proofs.Common.{arith}
use Rattle.cord_core.proofs.join.joined.Goals as goal

pub join-requires-clause-shallow : goal.join-requires-clause-shallow
join-requires-clause-shallow c = grind arith
