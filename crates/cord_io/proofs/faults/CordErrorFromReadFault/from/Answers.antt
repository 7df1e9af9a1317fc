use Rattle.std.proofs.Common.{refl}
use Rattle.cord_io.proofs.faults.CordErrorFromReadFault.from.Goals as goal

pub returns : goal.returns
returns c = refl
