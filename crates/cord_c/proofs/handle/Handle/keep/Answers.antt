use Rattle.std.proofs.Common.{rules}
use Rattle.cord_c.proofs.handle.Handle.keep.Goals as goal

pub returns-in-Some-clause-held : goal.returns-in-Some-clause-held
returns-in-Some-clause-held c = search rules
