use Rattle.cord_search.proofs.Common.{len_of, ◌+◌}
use Rattle.cord_search.specs.inner.SharedParts.{LeadsTo}
use Rattle.cord_search.proofs.shared_parts.meet.Given as goal

-- each spot is the place of its cord, and its way leads to it
abbrev pub invariant-loop-way : goal.invariant-loop-way
invariant-loop-way l = record { left : LeadsTo l.x l.i l.way l.spot; right : LeadsTo l.y l.j l.other_way l.other }

abbrev pub decreases-loop-way : goal.decreases-loop-way
decreases-loop-way l = len_of l.spot.node.now + len_of l.other.node.now
