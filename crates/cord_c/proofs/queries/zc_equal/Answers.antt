use Rattle.std.proofs.Common.{rules}
use Rattle.cord_c.proofs.queries.zc_equal.Goals as goal

pub returns-clause-equal : goal.returns-clause-equal
returns-clause-equal c = search rules
