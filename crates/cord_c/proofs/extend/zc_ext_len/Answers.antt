use Rattle.std.proofs.Common.{arith}
use Rattle.std.proofs.lemmas.Grind.{common_steps}
use Rattle.cord_c.proofs.extend.zc_ext_len.Goals as goal

pub returns-clause-len : goal.returns-clause-len
returns-clause-len c = grind (arith, common_steps)
