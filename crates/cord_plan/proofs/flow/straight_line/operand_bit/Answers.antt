use Rattle.std.specs.Prelude.{◌&&◌, ◌==◌}
use Rattle.cord_plan.proofs.Common.{Bool, ap, sym, ◌∙◌}
use Rattle.cord_plan.proofs.StraightLine.{one_bit}
use Rattle.cord_plan.proofs.Words.{bit_zero_is}
use Rattle.cord_plan.proofs.flow.straight_line.operand_bit.Goals as goal

pub returns-then-is_set : goal.returns-then-is_set
returns-then-is_set c = λ i. one_bit c.args.index i c.requires ∙ ap (λ (v : Bool). v && (i == c.args.index)) (sym c.if-is_set.true)

pub returns-else-is_set : goal.returns-else-is_set
returns-else-is_set c = λ i. bit_zero_is i ∙ ap (λ (v : Bool). v && (i == c.args.index)) (sym c.if-is_set.false)
