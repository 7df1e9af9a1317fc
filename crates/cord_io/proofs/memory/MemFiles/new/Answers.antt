use Rattle.std.proofs.Common.{rules}
use Rattle.cord_io.proofs.memory.MemFiles.new.Goals as goal

pub returns-clause-file_system : goal.returns-clause-file_system
returns-clause-file_system c = search rules
