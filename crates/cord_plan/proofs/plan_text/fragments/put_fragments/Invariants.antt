use Rattle.cord_plan.proofs.Common.{take, Ok, WriteFault, Writes, fragments_text}
use Rattle.cord_plan.proofs.plan_text.fragments.put_fragments.Given as goal

abbrev pub invariant-loop-fragment : goal.invariant-loop-fragment
invariant-loop-fragment g l =
    Writes {E = WriteFault} g.W.Sink (fragments_text (take l.fragment-index l.fragments)) l.initial.sink l.sink (Ok tt)
