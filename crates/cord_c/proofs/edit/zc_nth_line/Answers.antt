use Rattle.std.proofs.Common.{rules}
use Rattle.cord_c.proofs.edit.zc_nth_line.Goals as goal

pub returns-in-Ok-None-clause-past : goal.returns-in-Ok-None-clause-past
returns-in-Ok-None-clause-past c = search rules
