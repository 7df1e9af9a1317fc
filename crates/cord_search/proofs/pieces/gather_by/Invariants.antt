use Rattle.cord_search.proofs.Common.{HoldsText, Shows, StandsIn, length, ◌-◌, ◌≤◌}
use Rattle.cord_search.proofs.pieces.gather_by.Given as goal

-- the first `done` bytes are filled, and the position is one of the text
abbrev pub invariant-loop-done : goal.invariant-loop-done
invariant-loop-done g l = record {
  in_range : l.done ≤ length l.out;
  filled : Shows g.S.Source l.initial.src l.src (λ t. HoldsText t l.initial.position.cord l.place l.done l.out);
  position : StandsIn l.initial.position.cord l.position;
}

abbrev pub decreases-loop-done : goal.decreases-loop-done
decreases-loop-done g l = length l.out - l.done
