use Rattle.std.proofs.Common.{rules}
use Rattle.cord_c.proofs.walk.zc_pos_prev.Goals as goal

pub returns-then-position-gt0-2-clause-index : goal.returns-then-position-gt0-2-clause-index
returns-then-position-gt0-2-clause-index c = search rules
