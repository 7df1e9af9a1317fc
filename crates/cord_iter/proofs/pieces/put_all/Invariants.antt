use Rattle.cord_iter.proofs.Common.{length, take, ◌++◌, ◌-◌, ◌≡◌, ◌≤◌}
use Rattle.cord_iter.proofs.pieces.put_all.Given as goal

abbrev pub invariant-loop-done : goal.invariant-loop-done
invariant-loop-done g l = record {
  in_range : l.done ≤ length l.bytes;
  taken : g.W.Sink.taken l.sink ≡ g.W.Sink.taken l.initial.sink ++ take l.done l.bytes;
  count : g.W.Sink.failures l.sink ≡ g.W.Sink.failures l.initial.sink;
  finished : g.W.Sink.finished l.sink ≡ g.W.Sink.finished l.initial.sink;
}

abbrev pub decreases-loop-done : goal.decreases-loop-done
decreases-loop-done g l = length l.bytes - l.done
