use Rattle.std.proofs.Common.{rules}
use Rattle.cord_c.proofs.lazy_make.zc_lazy_len.Goals as goal

pub returns-clause-stored : goal.returns-clause-stored
returns-clause-stored c = search rules

pub returns-clause-over : goal.returns-clause-over
returns-clause-over c = search rules
