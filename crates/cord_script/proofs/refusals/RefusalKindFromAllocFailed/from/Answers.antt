use Rattle.cord_script.proofs.Common.{rules}
use Rattle.cord_script.proofs.refusals.RefusalKindFromAllocFailed.from.Goals as goal

pub returns : goal.returns
returns g c = search rules
