use Rattle.std.specs.Prelude.{◌≡◌}
use Rattle.cord_plan.proofs.Common.{Expr, names, IsFacts, stay}
use Rattle.cord_plan.proofs.planner.unchanged.stays_near.Given as goal

abbrev pub invariant-loop-p : goal.invariant-loop-p
invariant-loop-p l = (e : Expr) → IsFacts l.line.statements.now l.line.place e l.facts →
    stay l.line.statements.now l.from l.line.place (names e) ≡ stay l.line.statements.now l.p l.line.place (names e)
