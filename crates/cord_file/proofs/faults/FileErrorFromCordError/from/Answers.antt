use Rattle.std.proofs.Common.{rules}
use Rattle.cord_file.proofs.faults.FileErrorFromCordError.from.Goals as goal

pub returns-in-TooLong : goal.returns-in-TooLong
returns-in-TooLong c = search rules
