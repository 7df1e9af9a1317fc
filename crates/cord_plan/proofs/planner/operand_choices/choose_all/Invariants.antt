use Rattle.std.specs.Prelude.{◌≡◌, ◌≤◌, ◌+◌, ◌-◌}
use Rattle.cord_plan.proofs.Common.{[], map, drop, length, vec_len, vec_capacity, choice_view, Has, ChoiceTable, choices, reports, table_view}
use Rattle.cord_plan.proofs.planner.operand_choices.choose_all.Given as goal

-- what was chosen so far, and the operands that are left
abbrev pub invariant-loop-operand : goal.invariant-loop-operand
invariant-loop-operand l = record {
  size : length l.chosen.items ≡ l.operand-index;
  room : vec_len l.chosen + (length l.operands - l.operand-index) ≤ vec_capacity l.chosen;
  so_far : (t : ChoiceTable) → Has (table_view l.operations) t →
      choices l.line.statements.now (reports l.line.recent.now.later.now) t l.line.place l.line.statement.now
      (map choice_view l.chosen.items) (drop l.operand-index l.operands)
      ≡ choices l.line.statements.now (reports l.line.recent.now.later.now) t l.line.place l.line.statement.now [] l.operands;
}
