use Rattle.cord_search.proofs.Common.{IsSpot, IsSpotOf, IsWay, IsWithin, Node, Option, array_vec_len, depth_of, len_of, ◌+◌, ◌≤◌}
use Rattle.cord_search.specs.declared.shared_parts.TheConstants.{WAY_LEN}
use Rattle.cord_search.proofs.shared_parts.Way.span.Given as goal

-- the spot is the first one, in the same node or one below it
abbrev pub invariant-loop-side : goal.invariant-loop-side
invariant-loop-side l = record {
  spot : IsSpot l.spot;
  low : l.spot.place ≤ l.at;
  room : array_vec_len l.self.stops + depth_of l.spot.node.now ≤ WAY_LEN;
  within : IsWithin l.fn.last.node.now l.fn.last.place l.spot.node.now l.spot.place;
  way : (c : Option Node) → IsSpotOf c l.at l.fn.last → IsWay c l.fn.self → IsWay c l.self;
}

abbrev pub decreases-loop-side : goal.decreases-loop-side
decreases-loop-side l = len_of l.spot.node.now
