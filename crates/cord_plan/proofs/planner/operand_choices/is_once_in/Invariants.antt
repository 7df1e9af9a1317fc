use Rattle.std.specs.Prelude.{◌≡◌, ◌+◌, ◌≤◌}
use Rattle.cord_plan.proofs.Common.{drop, count}
use Rattle.cord_plan.proofs.planner.operand_choices.is_once_in.Given as goal

abbrev pub invariant-loop-operand : goal.invariant-loop-operand
invariant-loop-operand l = record {
  few : l.times ≤ l.operand-index;
  counted : count l.name l.operands ≡ l.times + count l.name (drop l.operand-index l.operands);
}
