use Rattle.std.proofs.Common.{refl}
use Rattle.cord_io.proofs.memory.MemFilesFiles.failures.Goals as goal

pub returns : goal.returns
returns c = refl
