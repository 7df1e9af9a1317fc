use Rattle.std.specs.Prelude.{◌≡◌, ◌∷◌, ◌++◌}
use Rattle.cord_plan.proofs.Common.{ℕ, [], ap, sym, ◌∙◌, append_assoc, codes, decimal, expr, expr_view, line_of, operation_view, statement, Statement}
use Rattle.cord_plan.specs.PlanText.{operation}
use Rattle.cord_plan.specs.declared.expressions.Expr.{Expr}
use Rattle.cord_plan.specs.declared.operations.Operation.{Operation}
use Rattle.cord_plan.specs.declared.operations.Operation.TheVariants.{Keep, Write}
use Rattle.cord_plan.proofs.Writing.{writes_same, writes_then, writes_stopped, writes_failed}
use Rattle.cord_plan.proofs.plan_text.put_operation.Goals as goal

written : (o : Operation) (line : ℕ) (e : Expr) → o ≡ Write line e →
    (decimal line ++ codes " write ") ++ expr (expr_view e) ≡ operation (operation_view o)
written o line e is = append_assoc (decimal line) (codes " write ") (expr (expr_view e)) ∙ ap (λ p. operation (operation_view p)) (sym is)

kept : (o : Operation) (l : Statement) (line : ℕ) → o ≡ Keep l → line ≡ line_of l →
    (decimal line ++ 32 ∷ []) ++ statement l ≡ operation (operation_view o)
kept o l line is at = ap (λ n. (decimal n ++ 32 ∷ []) ++ statement l) at ∙ append_assoc (decimal (line_of l)) (32 ∷ []) (statement l)
    ∙ ap (λ p. operation (operation_view p)) (sym is)

pub returns-in_err-put_fragments-in-Write : goal.returns-in_err-put_fragments-in-Write
returns-in_err-put_fragments-in-Write g c =
    writes_failed c.from_residual.ensures.0 (writes_same (written _ _ _ c.in-Write.is)
    (writes_stopped (expr (expr_view c.in-Write.expression)) c.in_err-put_fragments-in-Write.ensures))

pub returns-in_ok-put_fragments-in-Write : goal.returns-in_ok-put_fragments-in-Write
returns-in_ok-put_fragments-in-Write g c =
    writes_same (written _ _ _ c.in-Write.is) (writes_then c.in_ok-put_fragments-in-Write.ensures c.put_expression.ensures)

pub returns-in_err-put_fragments-in-Keep : goal.returns-in_err-put_fragments-in-Keep
returns-in_err-put_fragments-in-Keep g c =
    writes_failed c.from_residual-in_err-put_fragments-in-Keep.ensures.0 (writes_same (kept _ _ _ c.in-Keep.is c.line.ensures)
    (writes_stopped (statement c.in-Keep.statement) c.in_err-put_fragments-in-Keep.ensures))

pub returns-in_ok-put_fragments-in-Keep : goal.returns-in_ok-put_fragments-in-Keep
returns-in_ok-put_fragments-in-Keep g c =
    writes_same (kept _ _ _ c.in-Keep.is c.line.ensures)
    (writes_then c.in_ok-put_fragments-in-Keep.ensures c.put_statement.ensures)
