use Rattle.std.proofs.Common.{rules}
use Rattle.cord_node.proofs.range.shared_range.Goals as goal

pub returns-clause-part : goal.returns-clause-part
returns-clause-part c = search rules
