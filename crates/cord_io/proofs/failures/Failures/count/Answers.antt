use Rattle.std.proofs.Common.{rules}
use Rattle.cord_io.proofs.failures.Failures.count.Goals as goal

pub returns : goal.returns
returns c = search rules
