use Rattle.std.proofs.Common.{rules}
use Rattle.cord_c.proofs.lazy_part.zc_lazy_of_file.Goals as goal

pub returns-clause-text : goal.returns-clause-text
returns-clause-text c = search rules
