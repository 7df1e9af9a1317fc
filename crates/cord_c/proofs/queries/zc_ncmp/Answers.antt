use Rattle.std.proofs.Common.{rules}
use Rattle.cord_c.proofs.queries.zc_ncmp.Goals as goal

pub returns-clause-order : goal.returns-clause-order
returns-clause-order c = search rules
