use Rattle.std.proofs.Common.{rules}
use Rattle.cord_node.proofs.make.func.Goals as goal

pub returns-clause-form : goal.returns-clause-form
returns-clause-form c = search rules
