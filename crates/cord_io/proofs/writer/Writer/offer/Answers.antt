use Rattle.std.proofs.Common.{rules}
use Rattle.cord_io.proofs.writer.Writer.offer.Goals as goal

pub returns-in-Ok-clause-bytes : goal.returns-in-Ok-clause-bytes
returns-in-Ok-clause-bytes c = search rules
