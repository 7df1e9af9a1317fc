use Rattle.std.proofs.Common.{rules}
use Rattle.cord_c.proofs.referent.Referent.cord_or.Goals as goal

pub returns-in-Cord : goal.returns-in-Cord
returns-in-Cord c = search rules
