use Rattle.std.proofs.Common.{rules}
use Rattle.cord_c.proofs.queries.zc_fetch.Goals as goal

pub returns-in_default-clause-past : goal.returns-in_default-clause-past
returns-in_default-clause-past c = search rules
