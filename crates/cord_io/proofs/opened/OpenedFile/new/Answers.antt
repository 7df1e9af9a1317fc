use Rattle.std.proofs.Common.{rules}
use Rattle.cord_io.proofs.opened.OpenedFile.new.Goals as goal

pub returns-clause-trace : goal.returns-clause-trace
returns-clause-trace g c = search rules
