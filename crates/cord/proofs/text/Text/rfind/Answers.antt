use Rattle.std.proofs.Common.{◌<◌, length, refl, arith}
use Rattle.std.specs.Prelude.{min}
use Rattle.std.proofs.lemmas.Grind.{common_steps}
use Rattle.cord_search.proofs.Lasts.{last_none}
use Rattle.cord.proofs.text.Text.rfind.Goals as goal

pub returns-then-len-pattern-clause-last : goal.returns-then-len-pattern-clause-last
returns-then-len-pattern-clause-last c =
    let long : length c.args.self.now < length c.args.pattern.now = grind (arith, common_steps) in
    last_none c.args.self.now c.args.pattern.now c.args.end (min c.args.end (length c.args.self.now)) refl (omega (arith, long))
