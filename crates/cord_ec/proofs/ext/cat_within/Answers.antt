use Rattle.std.proofs.Common.{rules}
use Rattle.cord_ec.proofs.ext.cat_within.Goals as goal

pub returns : goal.returns
returns c = search rules
