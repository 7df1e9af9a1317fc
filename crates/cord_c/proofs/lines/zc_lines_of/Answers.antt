use Rattle.std.proofs.Common.{rules}
use Rattle.cord_c.proofs.lines.zc_lines_of.Goals as goal

pub returns-clause-number : goal.returns-clause-number
returns-clause-number c = search rules
