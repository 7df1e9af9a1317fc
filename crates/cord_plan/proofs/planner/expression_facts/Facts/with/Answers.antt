use Rattle.cord_plan.proofs.Common.{arith}
use Rattle.cord_plan.proofs.ExpressionFacts.{both_read, parts_then}
use Rattle.cord_plan.proofs.planner.expression_facts.Facts.with.Goals as goal

pub returns : goal.returns
returns c = λ s b es e one two. record {
  counted = omega (arith, c.in_ok-parts.ensures, parts_then es e, one.counted, two.counted);
  read = both_read s b es e c.args.self.now c.args.other c.min-since.result one two (omega (arith, c.min-since.ensures))
      (omega (arith, c.min-since.ensures));
}
