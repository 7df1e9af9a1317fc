use Rattle.std.proofs.Common.{sym}
use Rattle.cord_io.proofs.memory_sink.MemSink.bytes.Goals as goal

pub returns : goal.returns
returns c = sym c.deref.ensures.value
