use Rattle.cord_search.proofs.Common.{Shows, StandsIn, StandsNot, text_len, ◌+◌, ◌-◌, ◌≤◌}
use Rattle.cord_search.proofs.substring.first_at_or_after.Given as goal

-- the bytes stand at no place before, and the position is one of the text
abbrev pub invariant-loop-head : goal.invariant-loop-head
invariant-loop-head g l = record {
  low : l.start ≤ l.place;
  none : Shows g.S.Source l.initial.src l.src (λ t. StandsNot t l.x l.finder l.start l.place);
  position : StandsIn l.x l.position;
}

abbrev pub decreases-loop-head : goal.decreases-loop-head
decreases-loop-head g l = text_len l.x + 1 - l.place
