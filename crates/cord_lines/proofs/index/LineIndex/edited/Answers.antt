use Rattle.cord_lines.proofs.Common.{on_ok_weaker}
use Rattle.cord_lines.proofs.index.LineIndex.edited.Goals as goal

pub returns-clause-index : goal.returns-clause-index
returns-clause-index c = on_ok_weaker c.follow.result (λ follows. λ before is edit. follows before is tt edit) c.follow.ensures.index
