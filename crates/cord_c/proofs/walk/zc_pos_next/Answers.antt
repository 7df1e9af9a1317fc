use Rattle.std.proofs.Common.{rules}
use Rattle.cord_c.proofs.walk.zc_pos_next.Goals as goal

pub returns-then-position-2-clause-index : goal.returns-then-position-2-clause-index
returns-then-position-2-clause-index c = search rules
