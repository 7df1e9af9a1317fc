use Rattle.std.specs.Prelude.{◌≡◌}
use Rattle.cord_plan.proofs.Common.{map, drop, room_left_by, choice_view}
use Rattle.cord_plan.proofs.planner.operand_choices.room_left_by.Given as goal

abbrev pub invariant-loop-choice : goal.invariant-loop-choice
invariant-loop-choice l = room_left_by (map choice_view l.chosen) l.room
    ≡ room_left_by (map choice_view (drop l.choice-index l.chosen)) l.rest
