use Rattle.std.proofs.Common.{◌∙◌, arith}
use Rattle.std.proofs.lemmas.Grind.{common_steps}
use Rattle.cord_core.specs.Cord.{IsCord}
use Rattle.cord_core.proofs.OverLemmas.{length-bytes}
use Rattle.cord_core.proofs.Cord.len.Goals as goal

pub returns-in-Some-clause-stored : goal.returns-in-Some-clause-stored
returns-in-Some-clause-stored c = grind (arith, common_steps)

pub returns-in-Some-clause-over : goal.returns-in-Some-clause-over
returns-in-Some-clause-over c = λ t f.
    let s : IsCord c.args.self.now = grind (arith, common_steps) in
    returns-in-Some-clause-stored c ∙ length-bytes t c.args.self.now s f
