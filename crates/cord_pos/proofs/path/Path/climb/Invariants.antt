use Rattle.cord_pos.proofs.Common.{IsClimb, array_vec_len, places, ◌≡◌}
use Rattle.cord_pos.proofs.path.Path.climb.Given as goal

-- no place that was left out holds the index
abbrev pub invariant-loop-last : goal.invariant-loop-last
invariant-loop-last l = record {
  climb : IsClimb (places l.fn.self.stops.items) (places l.self.stops.items) l.at;
  visits : l.self.visits.count ≡ l.fn.self.visits.count;
}

abbrev pub decreases-loop-last : goal.decreases-loop-last
decreases-loop-last l = array_vec_len l.self.stops
