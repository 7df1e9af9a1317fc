use Rattle.cord_iter.proofs.Common.{false, replicate, walk, ◌-◌, ◌≡◌, ◌≤◌}
use Rattle.cord_iter.proofs.forward.walk_run.Given as goal

-- the first `done` bytes were walked over without a stop
abbrev pub invariant-loop-done : goal.invariant-loop-done
invariant-loop-done g l = record {
  in_range : l.done ≤ l.len;
  walked : walk g.V.Visitor.step (g.V.Visitor.state l.initial.visitor) (replicate l.done l.byte) ≡ (g.V.Visitor.state l.visitor, false);
}

abbrev pub decreases-loop-done : goal.decreases-loop-done
decreases-loop-done g l = l.len - l.done
