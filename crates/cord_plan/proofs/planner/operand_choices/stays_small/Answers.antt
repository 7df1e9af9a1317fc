use Rattle.std.specs.Prelude.{◌+◌, ◌-◌}
use Rattle.cord_plan.proofs.Common.{length-map, ℕ, length, ap, ◌∙◌, nat_le, choice_view, operand_names}
use Rattle.cord_plan.proofs.PartSums.{small_none, small_some_none, small_some_some}
use Rattle.cord_plan.proofs.planner.operand_choices.stays_small.Goals as goal

pub returns-in-None : goal.returns-in-None
returns-in-None c = small_none _ _ _ _ _ c.requires.line.operands (length-map c.args.chosen.now choice_view) c.requires.more c.in-None.ensures

pub returns-in-None-room_left_known : goal.returns-in-None-room_left_known
returns-in-None-room_left_known c = small_some_none _ _ _ _ _ c.requires.line.operands (length-map c.args.chosen.now choice_view) c.requires.more _
    c.in-Some.ensures c.in-None-room_left_known.ensures

pub returns-in-Some-room_left_known : goal.returns-in-Some-room_left_known
returns-in-Some-room_left_known c =
    let chosen = length c.args.chosen.now in
    let rest = c.in-Some-room_left_known.rest in
    ap (λ (n : ℕ). nat_le (n - chosen - 1 + c.parts_beside.result) rest) c.operand_count.ensures
    ∙ (ap (λ (n : ℕ). nat_le (length (operand_names c.args.line.now.operands) - chosen - 1 + n) rest) c.parts_beside.ensures
    ∙ small_some_some _ _ _ _ _ c.requires.line.operands (length-map c.args.chosen.now choice_view) c.requires.more _ _ c.in-Some.ensures
    c.in-Some-room_left_known.ensures)

pub room_left_known-requires : goal.room_left_known-requires
room_left_known-requires c = (c.args.line.now.statements.now, c.args.line.now.place, c.requires.facts)
