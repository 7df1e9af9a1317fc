use Rattle.std.proofs.Common.{ℕ, List, [], ◌∷◌, ◌∙◌, ap}
use Rattle.cord_core.specs.Texts.{first}
use Rattle.cord.specs.Plain.{no_lengths}
use Rattle.cord.proofs.PlainTexts.{plain_len}
use Rattle.cord.proofs.text.Text.find_byte.Goals as goal

pub chr-requires-clause-fits : goal.chr-requires-clause-fits
chr-requires-clause-fits c = c.self.invariant.over.fits no_lengths

pub returns-clause-first : goal.returns-clause-first
returns-clause-first c = c.in-Ok.ensures.first [] tt ∙ ap (λ (x : List ℕ). first x c.args.start (c.args.byte ∷ [])) c.self.view_is

pub returns-clause-inside : goal.returns-clause-inside
returns-clause-inside c = rw (plain_len c.self.inside.cord c.args.self.now c.self.invariant c.self.view_is) at c.in-Ok.ensures.within
