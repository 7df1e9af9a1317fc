use Rattle.cord_plan.proofs.Common.{map, take, choice_view, Takes}
use Rattle.cord_plan.proofs.planner.expressions.note_choices.Given as goal

abbrev pub invariant-choices : goal.invariant-choices
invariant-choices l = Takes (map choice_view (take l.choice-index l.choices)) l.initial.taken l.taken
