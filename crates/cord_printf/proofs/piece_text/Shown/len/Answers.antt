use Rattle.std.proofs.Common.{arith}
use Rattle.std.proofs.lemmas.Grind.{common_steps}
use Rattle.cord_printf.proofs.piece_text.Shown.len.Goals as goal

pub returns : goal.returns
returns c = grind (arith, common_steps)
