use Rattle.std.specs.Prelude.{◌∷◌, ◌++◌}
use Rattle.cord_plan.proofs.Common.{List, ℕ, [], map, refl, ap, sym, append_assoc, text_of_plan, operation_view}
use Rattle.cord_plan.specs.declared.operations.Operation.{Operation}
use Rattle.cord_plan.specs.PlanText.{operation}
use Rattle.cord_plan.proofs.Writing.{AreJoined, writes_failed, writes_next, writes_broken, writes_then, writes_stopped, writes_same}
use Rattle.cord_plan.proofs.plan_text.put_operations.Goals as goal

abbrev text : List Operation → List ℕ
text os = text_of_plan (map operation_view os)

-- a line with its end
abbrev ended : Operation → List ℕ
ended o = operation (operation_view o) ++ 10 ∷ []

joined : AreJoined text ended
joined = record { nil = refl; cons = λ o os. sym (append_assoc (operation (operation_view o)) (10 ∷ []) (text os)) }

pub returns-in_err-put_operation : goal.returns-in_err-put_operation
returns-in_err-put_operation g c = writes_failed c.from_residual.ensures.0
    (writes_broken text ended joined c.args.operations.now _ _ c.loop-operation-test.true c.loop-operation.invariant
    (writes_same (ap ended c.operation-item.is) (writes_stopped (10 ∷ []) c.in_err-put_operation.ensures)))

pub returns-in_err-put_all : goal.returns-in_err-put_all
returns-in_err-put_all g c = writes_failed c.from_residual-in_err-put_all.ensures.0
    (writes_broken text ended joined c.args.operations.now _ _ c.loop-operation-test.true c.loop-operation.invariant
    (writes_same (ap ended c.operation-item.is) (writes_then c.in_ok-put_operation.ensures c.in_err-put_all.ensures)))

pub loop-operation-preserved : goal.loop-operation-preserved
loop-operation-preserved g c = writes_next text ended joined c.args.operations.now _ _ c.loop-operation-test.true c.loop-operation.invariant
    (writes_same (ap ended c.operation-item.is) (writes_then c.in_ok-put_operation.ensures c.in_ok-put_all.ensures))
