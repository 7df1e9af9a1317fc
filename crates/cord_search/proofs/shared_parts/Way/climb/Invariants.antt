use Rattle.cord_search.proofs.Common.{IsWay, array_vec_len}
use Rattle.cord_search.proofs.shared_parts.Way.climb.Given as goal

-- it is left a way of the cord
abbrev pub invariant-loop-last : goal.invariant-loop-last
invariant-loop-last l = IsWay l.fn.cord l.self

abbrev pub decreases-loop-last : goal.decreases-loop-last
decreases-loop-last l = array_vec_len l.self.stops
