use Rattle.cord_script.proofs.Common.{rules}
use Rattle.cord_script.proofs.refusals.RefusalKindFromAllocError.from.Goals as goal

pub returns : goal.returns
returns c = search rules
