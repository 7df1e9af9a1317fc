use Rattle.std.proofs.Common.{arith}
use Rattle.std.proofs.lemmas.Grind.{common_steps, pieces}
use Rattle.cord_c.proofs.scan.zc_chunks_set.Goals as goal

pub returns-clause-before : goal.returns-clause-before
returns-clause-before c = grind (arith, common_steps, pieces)

pub returns-clause-left : goal.returns-clause-left
returns-clause-left c = grind (arith, common_steps, pieces)
