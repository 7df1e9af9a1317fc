use Rattle.std.proofs.Common.{rules}
use Rattle.cord_c.proofs.hash.zc_hash.Goals as goal

pub returns-clause-hash : goal.returns-clause-hash
returns-clause-hash c = search rules
