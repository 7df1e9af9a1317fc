use Rattle.cord_search.proofs.Common.{◌-◌}
use Rattle.cord_search.proofs.Lemmas.{IsComparing}
use Rattle.cord_search.proofs.order.compare.Given as goal

abbrev pub invariant-loop-done : goal.invariant-loop-done
invariant-loop-done g l = IsComparing g.S.Source l.initial.src l.src l.x l.i l.way l.y l.j l.other_way l.both l.done

abbrev pub decreases-loop-done : goal.decreases-loop-done
decreases-loop-done g l = l.both - l.done
