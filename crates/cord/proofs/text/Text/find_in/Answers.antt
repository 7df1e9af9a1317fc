use Rattle.std.proofs.Common.{◌+◌, ◌<◌, ℕ, List, [], ◌∙◌, ap, take, length, sym, arith}
use Rattle.std.proofs.lemmas.Grind.{common_steps}
use Rattle.std.proofs.lemmas.List.{length-take}
use Rattle.cord_core.specs.Texts.{first}
use Rattle.cord.specs.Plain.{no_lengths}
use Rattle.cord.proofs.Found.{first_beyond}
use Rattle.cord.proofs.PlainTexts.{plain_len}
use Rattle.cord.proofs.text.Text.find_in.Goals as goal

pub returns-then-pattern-min-clause-first : goal.returns-then-pattern-min-clause-first
returns-then-pattern-min-clause-first c =
    let x = take c.args.end c.args.self.now in
    let long : length x < c.args.start + length c.args.pattern.now =
    grind (arith, common_steps, length-take c.args.end c.args.self.now) in
    sym (first_beyond x c.args.pattern.now c.args.start long)

pub find_bytes_in-requires-clause-fits : goal.find_bytes_in-requires-clause-fits
find_bytes_in-requires-clause-fits c = c.self.invariant.over.fits no_lengths

pub returns-clause-first : goal.returns-clause-first
returns-clause-first c =
    c.in-Ok.ensures.first [] tt
    ∙ ap (λ (x : List ℕ). first (take c.args.end x) c.args.start c.args.pattern.now) c.self.view_is

pub returns-clause-inside : goal.returns-clause-inside
returns-clause-inside c = rw (plain_len c.self.inside.cord c.args.self.now c.self.invariant c.self.view_is) at c.in-Ok.ensures.within
