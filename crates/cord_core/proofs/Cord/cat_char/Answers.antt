use Rattle.std.proofs.Common.{rules}
use Rattle.cord_core.proofs.Cord.cat_char.Goals as goal

pub returns : goal.returns
returns c = search rules
