use Rattle.std.proofs.Common.{rules}
use Rattle.cord_c.proofs.editing.zc_edit_remove.Goals as goal

pub returns-in-Ok-clause-text : goal.returns-in-Ok-clause-text
returns-in-Ok-clause-text c = search rules
