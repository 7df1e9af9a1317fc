use Rattle.std.specs.Prelude.{◌≡◌, ◌==◌}
use Rattle.cord_plan.proofs.Common.{ℕ, true, false, drop, ap, arith, bytes_eq, at_drop_all, count}
use Rattle.cord_plan.proofs.Nearest.{count_here}
use Rattle.cord_plan.proofs.planner.operand_choices.is_once_in.Goals as goal
use Rattle.cord_plan.proofs.planner.operand_choices.is_once_in.Goals.{then-is, else-is}

pub loop-operand-preserved : goal.loop-operand-preserved
loop-operand-preserved c =
    let here = count_here c.args.operands.now c.loop-operand.operand-index c.operand-item.result c.args.name.now c.loop-operand-test.true
    c.operand-item.is in
    elim c.if-is.branch [
      | then-is w ↦
          let same : bytes_eq c.args.name.now c.operand-item.result ≡ true = cc in
          record { few = omega arith; counted = let more = rw same at here in omega (arith, more) }
      | else-is w ↦
          let other : bytes_eq c.args.name.now c.operand-item.result ≡ false = cc in
          record { few = omega arith; counted = let more = rw other at here in omega (arith, more) }
    ]

pub returns : goal.returns
returns c =
    let all : count c.args.name.now (drop c.loop-operand.operand-index c.args.operands.now) ≡ 0 =
    at_drop_all (count c.args.name.now) c.args.operands.now c.loop-operand.operand-index (omega arith) in
    let times : c.loop-operand.times ≡ count c.args.name.now c.args.operands.now = omega arith in
    ap (λ (n : ℕ). n == 1) times
