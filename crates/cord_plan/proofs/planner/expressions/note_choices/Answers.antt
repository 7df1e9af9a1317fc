use Rattle.cord_plan.proofs.Begun.{more_taken}
use Rattle.cord_plan.proofs.planner.expressions.note_choices.Goals as goal

pub choices-preserved : goal.choices-preserved
choices-preserved c = more_taken _ _ _ _ _ _ c.choices-test.true c.choice-item.is c.choices.invariant c.note_choice.ensures
