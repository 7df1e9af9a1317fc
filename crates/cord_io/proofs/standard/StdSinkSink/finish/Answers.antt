use Rattle.std.proofs.Common.{rules}
use Rattle.cord_io.proofs.standard.StdSinkSink.finish.Goals as goal

pub returns-in-Ok-clause-finished : goal.returns-in-Ok-clause-finished
returns-in-Ok-clause-finished g c = search rules

pub returns-in-Ok-clause-flushed : goal.returns-in-Ok-clause-flushed
returns-in-Ok-clause-flushed g c = search rules
