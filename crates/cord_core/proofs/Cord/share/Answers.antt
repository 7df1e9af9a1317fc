use Rattle.std.proofs.Common.{rules}
use Rattle.cord_core.proofs.Cord.share.Goals as goal

pub returns-in_ok-node-in-Some-clause-same : goal.returns-in_ok-node-in-Some-clause-same
returns-in_ok-node-in-Some-clause-same c = search rules
