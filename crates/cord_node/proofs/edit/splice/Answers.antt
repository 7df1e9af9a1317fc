use Rattle.std.proofs.Common.{rules}
use Rattle.cord_node.proofs.edit.splice.Goals as goal

pub returns-clause-few : goal.returns-clause-few
returns-clause-few c = search rules

pub returns-clause-from_there : goal.returns-clause-from_there
returns-clause-from_there c = search rules
