use Rattle.std.proofs.Common.{rules}
use Rattle.cord_io.proofs.writer.Writer.flush.Goals as goal

pub returns-in-Ok-clause-ends : goal.returns-in-Ok-clause-ends
returns-in-Ok-clause-ends c = search rules
