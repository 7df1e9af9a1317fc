use Rattle.cord_plan.proofs.Common.{Expr, ap, cat, expr_view, member, nothing}
use Rattle.cord_plan.proofs.edits.pair_edit.Goals as goal

-- a must-fail edit breaks it
pub returns-then-is_own : goal.returns-then-is_own
returns-then-is_own c = ap (λ (e : Expr). cat (member e (member (expr_view c.args.last.now) nothing))) (c.is_own.ensures c.if-is_own.true)
