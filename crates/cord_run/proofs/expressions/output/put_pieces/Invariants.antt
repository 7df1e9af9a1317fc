use Rattle.cord_run.proofs.Common.{take, FileSystem, all_bytes, ◌≡◌, ◌++◌}
use Rattle.cord_run.proofs.expressions.output.put_pieces.Given as goal

abbrev pub invariant-loop-piece : goal.invariant-loop-piece
invariant-loop-piece g l = record {
  lengths : g.R.Source.lengths l.source ≡ g.R.Source.lengths l.initial.source;
  table : g.R.Source.table l.source ≡ g.R.Source.table l.initial.source;
  earlier : (file_system : FileSystem) → g.R.Source.consistent l.source file_system → g.R.Source.consistent l.initial.source file_system;
  source : g.R.Source.failures l.source ≡ g.R.Source.failures l.initial.source;
  sink : g.S.Sink.failures l.sink ≡ g.S.Sink.failures l.initial.sink;
  finished : g.S.Sink.finished l.sink ≡ g.S.Sink.finished l.initial.sink;
  puts : (file_system : FileSystem) → g.R.Source.consistent l.source file_system → g.S.Sink.taken l.sink ≡ g.S.Sink.taken l.initial.sink
      ++ all_bytes (g.R.Source.table l.initial.source file_system) (take l.piece-index l.pieces);
}
