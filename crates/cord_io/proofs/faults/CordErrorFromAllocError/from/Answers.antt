use Rattle.std.proofs.Common.{refl}
use Rattle.cord_io.proofs.faults.CordErrorFromAllocError.from.Goals as goal

pub returns : goal.returns
returns c = refl
