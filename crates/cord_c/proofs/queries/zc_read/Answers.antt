use Rattle.std.proofs.Common.{rules}
use Rattle.cord_c.proofs.queries.zc_read.Goals as goal

pub returns-clause-got : goal.returns-clause-got
returns-clause-got c = search rules

pub returns-clause-bytes : goal.returns-clause-bytes
returns-clause-bytes c = search rules
