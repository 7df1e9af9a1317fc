use Rattle.cord_plan.proofs.Common.{take, map, Ok, WriteFault, Writes, text_of_plan, operation_view}
use Rattle.cord_plan.proofs.plan_text.put_operations.Given as goal

abbrev pub invariant-loop-operation : goal.invariant-loop-operation
invariant-loop-operation g l =
    Writes {E = WriteFault} g.W.Sink (text_of_plan (map operation_view (take l.operation-index l.operations))) l.initial.sink l.sink (Ok tt)
