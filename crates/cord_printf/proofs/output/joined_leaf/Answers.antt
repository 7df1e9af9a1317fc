use Rattle.std.proofs.Common.{rules}
use Rattle.cord_printf.proofs.output.joined_leaf.Goals as goal

pub returns-in-Some-clause-short : goal.returns-in-Some-clause-short
returns-in-Some-clause-short c = search rules
