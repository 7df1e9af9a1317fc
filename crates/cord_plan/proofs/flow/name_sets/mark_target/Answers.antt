use Rattle.cord_plan.proofs.Common.{sym, ◌∙◌}
use Rattle.cord_plan.proofs.MarkedNames.{marks_named, marks_unnamed}
use Rattle.cord_plan.proofs.flow.name_sets.mark_target.Goals as goal

pub returns-in-Some : goal.returns-in-Some
returns-in-Some c = λ t o is. marks_named t c.args.group o c.in-Some.number c.mark_number.result (sym c.in-Some.is ∙ is)
    (λ y e. c.mark_number.ensures t y e)

pub returns-in-None : goal.returns-in-None
returns-in-None c = λ t o is. marks_unnamed t c.args.group o (sym c.in-None.is ∙ is)
