use Rattle.std.proofs.Common.{rules}
use Rattle.cord_c.proofs.find.zc_find_in.Goals as goal

pub returns-clause-first : goal.returns-clause-first
returns-clause-first c = search rules
