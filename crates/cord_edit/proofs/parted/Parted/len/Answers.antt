use Rattle.std.proofs.Common.{rules}
use Rattle.cord_edit.proofs.parted.Parted.len.Goals as goal

pub returns-clause-value : goal.returns-clause-value
returns-clause-value c = search rules
