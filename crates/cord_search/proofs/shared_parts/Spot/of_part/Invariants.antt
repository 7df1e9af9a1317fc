use Rattle.cord_search.proofs.Common.{IsSpotOf, len_of}
use Rattle.cord_search.proofs.shared_parts.Spot.of_part.Given as goal

-- the place is one of the node's
abbrev pub invariant-loop-side : goal.invariant-loop-side
invariant-loop-side l = IsSpotOf l.cord l.at l.spot

abbrev pub decreases-loop-side : goal.decreases-loop-side
decreases-loop-side l = len_of l.spot.node.now
