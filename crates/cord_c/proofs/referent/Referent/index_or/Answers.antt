use Rattle.std.proofs.Common.{rules}
use Rattle.cord_c.proofs.referent.Referent.index_or.Goals as goal

pub returns-in-Lines : goal.returns-in-Lines
returns-in-Lines c = search rules
