use Rattle.std.proofs.Common.{rules}
use Rattle.cord_c.proofs.editing.zc_edit_len.Goals as goal

pub returns-in-Some-clause-len : goal.returns-in-Some-clause-len
returns-in-Some-clause-len c = search rules
