use Rattle.cord_iter.proofs.Common.{Ok, Walks, drop, false, take, ◌-◌, ◌≤◌}
use Rattle.cord_io.specs.declared.faults.ReadFault.{ReadFault}
use Rattle.cord_iter.proofs.forward.walk_func.Given as goal

-- the first `done` bytes of the range were walked over without a stop, and no read has failed
abbrev pub invariant-loop-done : goal.invariant-loop-done
invariant-loop-done g l = record {
  in_range : l.done ≤ l.len;
  walks : Walks {E = ReadFault} g.S.Source g.V.Visitor.step (λ t. take l.done (drop l.start (t l.id.0))) l.initial.src l.src
      (g.V.Visitor.state l.initial.visitor) (g.V.Visitor.state l.visitor) (Ok false);
}

abbrev pub decreases-loop-done : goal.decreases-loop-done
decreases-loop-done g l = l.len - l.done
