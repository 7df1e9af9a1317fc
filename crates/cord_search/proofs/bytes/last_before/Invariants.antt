use Rattle.cord_search.proofs.Common.{HasNot, Shows, StandsIn, ◌+◌, ◌≤◌}
use Rattle.cord_search.proofs.bytes.last_before.Given as goal

-- the byte stands at no place from the end on, and the position is one of the text
abbrev pub invariant-loop-end : goal.invariant-loop-end
invariant-loop-end g l = record {
  high : l.end ≤ l.at + 1;
  none : Shows g.S.Source l.initial.src l.src (λ t. HasNot t l.x l.byte l.end (l.at + 1));
  position : StandsIn l.x l.position;
}

abbrev pub decreases-loop-end : goal.decreases-loop-end
decreases-loop-end g l = l.end
