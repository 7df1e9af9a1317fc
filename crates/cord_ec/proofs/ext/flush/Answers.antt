use Rattle.std.proofs.Common.{rules}
use Rattle.cord_ec.proofs.ext.flush.Goals as goal

pub returns-in_err-longer-clause-buffer_unchanged : goal.returns-in_err-longer-clause-buffer_unchanged
returns-in_err-longer-clause-buffer_unchanged c = search rules
