use Rattle.std.proofs.Common.{rules}
use Rattle.cord_c.proofs.lines.zc_lines_edited_from.Goals as goal

pub returns-in-Ok-clause-index : goal.returns-in-Ok-clause-index
returns-in-Ok-clause-index c = search rules
