use Rattle.cord_iter.proofs.Common.{Ok, Puts, drop, length, take, ◌-◌, ◌≡◌, ◌≤◌}
use Rattle.cord_iter.proofs.output.put_range.Given as goal

-- the first `done` bytes of the range were taken, and no device has failed
abbrev pub invariant-loop-done : goal.invariant-loop-done
invariant-loop-done g l = record {
  in_range : l.done ≤ l.len;
  room : length l.buffer ≡ g.row.N;
  puts : Puts g.S.Source g.W.Sink l.done (λ t. take l.done (drop l.start (t l.id.0))) l.initial.src l.src l.initial.sink l.sink (Ok tt);
}

abbrev pub decreases-loop-done : goal.decreases-loop-done
decreases-loop-done g l = l.len - l.done
