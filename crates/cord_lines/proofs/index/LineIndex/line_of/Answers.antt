use Rattle.cord_lines.proofs.Countings.{alike}
use Rattle.cord_lines.proofs.index.LineIndex.line_of.Goals as goal

pub returns : goal.returns
returns c = λ is. (alike (c.counts_before.ensures is)).ends
