use Rattle.cord_search.proofs.Common.{HasNot, Shows, StandsIn, ◌-◌, ◌≤◌}
use Rattle.cord_search.proofs.bytes.first_after.Given as goal

-- the byte stands at no place before, and the position is one of the text
abbrev pub invariant-loop-place : goal.invariant-loop-place
invariant-loop-place g l = record {
  low : l.from ≤ l.place;
  high : l.place ≤ l.len;
  none : Shows g.S.Source l.initial.src l.src (λ t. HasNot t l.x l.byte l.from l.place);
  position : StandsIn l.x l.position;
}

abbrev pub decreases-loop-place : goal.decreases-loop-place
decreases-loop-place g l = l.len - l.place
