use Rattle.cord_pos.proofs.Common.{IsCord, Some, number_at, ◌+◌, ◌≡◌}
use Rattle.cord_pos.proofs.Position.walk_to.Given as goal

-- as many steps were taken as the index says, and each node that was met was visited once
abbrev pub invariant-loop-step : goal.invariant-loop-step
invariant-loop-step l = record {
  sound : IsCord l.fn.cord;
  cord : l.position.cord ≡ l.fn.cord;
  index : l.position.index ≡ Some l._step;
  visits : l.position.visits ≡ number_at l.fn.cord l._step + 1;
}
