use Rattle.std.proofs.Common.{rules}
use Rattle.cord_c.proofs.editing.zc_edit_bytes.Goals as goal

pub returns-in-Ok-clause-text : goal.returns-in-Ok-clause-text
returns-in-Ok-clause-text c = search rules

pub returns-in-Ok-clause-within_limit : goal.returns-in-Ok-clause-within_limit
returns-in-Ok-clause-within_limit c = search rules
