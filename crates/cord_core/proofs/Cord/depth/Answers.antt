use Rattle.std.proofs.Common.{rules}
use Rattle.cord_core.proofs.Cord.depth.Goals as goal

pub returns-in-Some-clause-stored : goal.returns-in-Some-clause-stored
returns-in-Some-clause-stored c = search rules

pub returns-in-Some-clause-truth : goal.returns-in-Some-clause-truth
returns-in-Some-clause-truth c = search rules
