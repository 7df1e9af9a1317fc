use Rattle.cord_plan.proofs.Common.{refl, ap, fragment_text, fragments_text}
use Rattle.cord_plan.proofs.Writing.{AreJoined, writes_failed, writes_next, writes_broken, writes_same}
use Rattle.cord_plan.proofs.plan_text.fragments.put_fragments.Goals as goal

joined : AreJoined fragments_text fragment_text
joined = record { nil = refl; cons = λ f fs. refl }

pub returns-in_err-put_fragment : goal.returns-in_err-put_fragment
returns-in_err-put_fragment g c = writes_failed c.from_residual.ensures.0 (writes_broken fragments_text fragment_text joined _ _ _
    c.loop-fragment-test.true c.loop-fragment.invariant (writes_same (ap fragment_text c.fragment-item.is) c.in_err-put_fragment.ensures))

pub loop-fragment-preserved : goal.loop-fragment-preserved
loop-fragment-preserved g c = writes_next fragments_text fragment_text joined _ _ _ c.loop-fragment-test.true c.loop-fragment.invariant
    (writes_same (ap fragment_text c.fragment-item.is) c.in_ok-put_fragment.ensures)
