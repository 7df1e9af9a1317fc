use Rattle.cord_search.proofs.Common.{IsKnown, Shows, StandsNot, bytes_of, ◌+◌, ◌-◌, ◌≤◌}
use Rattle.cord_search.proofs.substring.first_confirmed.Given as goal

-- the text stands at no place before
abbrev pub invariant-loop-place : goal.invariant-loop-place
invariant-loop-place g l = record {
  low : l.start ≤ l.place;
  none : Shows g.S.Source l.initial.src l.src
      (λ t. IsKnown t l.s l.prefix l.repeats × StandsNot t l.x (bytes_of t l.s) l.start l.place);
}

abbrev pub decreases-loop-place : goal.decreases-loop-place
decreases-loop-place g l = l.last + 1 - l.place
