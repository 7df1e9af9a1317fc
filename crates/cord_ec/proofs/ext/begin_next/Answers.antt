use Rattle.std.proofs.Common.{rules}
use Rattle.cord_ec.proofs.ext.begin_next.Goals as goal

pub returns-clause-begun : goal.returns-clause-begun
returns-clause-begun c = search rules
