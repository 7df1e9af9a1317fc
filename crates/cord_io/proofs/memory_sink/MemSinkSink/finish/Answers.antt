use Rattle.std.proofs.Common.{rules}
use Rattle.cord_io.proofs.memory_sink.MemSinkSink.finish.Goals as goal

pub returns-clause-finished : goal.returns-clause-finished
returns-clause-finished c = search rules
