use Rattle.std.proofs.Common.{rules}
use Rattle.cord_c.proofs.lines.zc_lines_utf8.Goals as goal

pub returns-clause-chars : goal.returns-clause-chars
returns-clause-chars c = search rules
