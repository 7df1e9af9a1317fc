use Rattle.std.proofs.Common.{rules}
use Rattle.cord_io.proofs.faults.CordErrorFromAllocFailed.from.Goals as goal

pub returns : goal.returns
returns g c = search rules
