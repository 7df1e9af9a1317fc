use Rattle.std.proofs.Common.{rules}
use Rattle.cord_file.proofs.faults.FileErrorFromAllocFailed.from.Goals as goal

pub returns : goal.returns
returns g c = search rules
