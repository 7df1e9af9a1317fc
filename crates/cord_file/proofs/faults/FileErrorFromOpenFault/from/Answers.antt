use Rattle.std.proofs.Common.{rules}
use Rattle.cord_file.proofs.faults.FileErrorFromOpenFault.from.Goals as goal

pub returns-in-Failed : goal.returns-in-Failed
returns-in-Failed c = search rules
