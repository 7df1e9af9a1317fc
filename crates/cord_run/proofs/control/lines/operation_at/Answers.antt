use Rattle.cord_run.proofs.Operations.{here_at}
use Rattle.cord_run.proofs.control.lines.operation_at.Goals as goal

pub returns : goal.returns
returns c = here_at c.args.operations.now c.args.place c.index-operations-place.result c.requires c.index-operations-place.is
