use Rattle.std.proofs.Common.{rules}
use Rattle.cord_c.proofs.find.zc_rfind.Goals as goal

pub returns-clause-last : goal.returns-clause-last
returns-clause-last c = search rules
