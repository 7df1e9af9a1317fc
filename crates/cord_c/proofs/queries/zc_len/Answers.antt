use Rattle.std.proofs.Common.{rules}
use Rattle.cord_c.proofs.queries.zc_len.Goals as goal

pub returns-clause-len : goal.returns-clause-len
returns-clause-len c = search rules
