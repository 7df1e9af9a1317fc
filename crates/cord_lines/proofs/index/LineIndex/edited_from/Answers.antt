use Rattle.cord_lines.proofs.Common.{on_ok_weaker, refl}
use Rattle.cord_lines.proofs.index.LineIndex.edited_from.Goals as goal

pub returns-clause-index : goal.returns-clause-index
returns-clause-index c = on_ok_weaker c.follow.result (λ follows. λ is edit. follows c.args.before.now is refl edit) c.follow.ensures.index
