use Rattle.std.proofs.Common.{rules}
use Rattle.cord_c.proofs.walk.zc_pos_set.Goals as goal

pub returns-clause-index : goal.returns-clause-index
returns-clause-index c = search rules
