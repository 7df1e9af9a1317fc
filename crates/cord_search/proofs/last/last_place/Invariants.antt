use Rattle.cord_search.proofs.Common.{IfSome, IsLastSoFar, Shows, StandsNot, bytes_of, ◌-◌, ◌<◌, ◌≤◌}
use Rattle.cord_search.proofs.last.last_place.Given as goal

-- the text stands at no place from `high` on, and what was found lies right before `low`
abbrev pub invariant-loop-low : goal.invariant-loop-low
invariant-loop-low g l = record {
  order : l.low ≤ l.high;
  most : l.high ≤ l.limit;
  some : 0 < l.width;
  below : IfSome l.found (λ place. place < l.limit);
  best : Shows g.S.Source l.initial.src l.src
      (λ t. IsLastSoFar t l.x (bytes_of t l.s) l.found l.low × StandsNot t l.x (bytes_of t l.s) l.high l.limit);
}

abbrev pub decreases-loop-low : goal.decreases-loop-low
decreases-loop-low g l = l.high - l.low
