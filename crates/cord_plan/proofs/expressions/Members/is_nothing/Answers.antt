use Rattle.cord_plan.proofs.Common.{sym, ap, ◌∙◌, is_nothing}
use Rattle.cord_plan.proofs.Halves.{nothing_reported}
use Rattle.cord_plan.proofs.expressions.Members.is_nothing.Goals as goal

pub returns : goal.returns
returns c =
    c.is_empty.ensures
    ∙ (nothing_reported c.halves.result.0 c.halves.result.1.now c.halves.ensures.after ∙ ap is_nothing (sym c.halves.ensures.members))
