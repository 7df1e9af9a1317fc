use Rattle.std.proofs.Common.{rules}
use Rattle.cord_c.proofs.lines.zc_lines_start.Goals as goal

pub returns-clause-start : goal.returns-clause-start
returns-clause-start c = search rules
