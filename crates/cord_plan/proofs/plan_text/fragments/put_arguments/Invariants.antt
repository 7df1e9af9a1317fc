use Rattle.cord_plan.proofs.Common.{take, Ok, WriteFault, Writes, printed_arguments}
use Rattle.cord_plan.proofs.plan_text.fragments.put_arguments.Given as goal

abbrev pub invariant-loop-argument : goal.invariant-loop-argument
invariant-loop-argument g l =
    Writes {E = WriteFault} g.W.Sink (printed_arguments (take l.argument-index l.arguments)) l.initial.sink l.sink (Ok tt)
