use Rattle.std.proofs.Common.{rules}
use Rattle.cord_c.proofs.queries.zc_depth.Goals as goal

pub returns-clause-limit : goal.returns-clause-limit
returns-clause-limit c = search rules
