use Rattle.std.proofs.Common.{rules}
use Rattle.cord_c.proofs.queries.zc_count.Goals as goal

pub returns-clause-count : goal.returns-clause-count
returns-clause-count c = search rules
