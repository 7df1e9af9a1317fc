use Rattle.std.proofs.Common.{refl}
use Rattle.cord_file.proofs.faults.FileErrorFromAllocError.from.Goals as goal

pub returns : goal.returns
returns c = refl
