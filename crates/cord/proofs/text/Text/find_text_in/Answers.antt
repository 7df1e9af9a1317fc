use Rattle.std.proofs.Common.{ℕ, List, [], ◌∙◌, take, ap}
use Rattle.cord_core.specs.Texts.{first}
use Rattle.cord.specs.Plain.{no_lengths, plain_bytes}
use Rattle.cord.proofs.PlainTexts.{plain_len}
use Rattle.cord.proofs.text.Text.find_text_in.Goals as goal

pub str_in-requires-clause-fits : goal.str_in-requires-clause-fits
str_in-requires-clause-fits c = c.self.invariant.over.fits no_lengths

pub str_in-requires-clause-pattern_fits : goal.str_in-requires-clause-pattern_fits
str_in-requires-clause-pattern_fits c = c.pattern.invariant.over.fits no_lengths

pub returns-clause-first : goal.returns-clause-first
returns-clause-first c =
    c.in-Ok.ensures.first [] tt
    ∙ ap (λ (x : List ℕ). first (take c.args.end x) c.args.start (plain_bytes c.pattern.inside.cord)) c.self.view_is
    ∙ ap (λ (s : List ℕ). first (take c.args.end c.args.self.now) c.args.start s) c.pattern.view_is

pub returns-clause-before : goal.returns-clause-before
returns-clause-before c =
    rw (plain_len c.pattern.inside.cord c.args.pattern.now c.pattern.invariant c.pattern.view_is) at c.in-Ok.ensures.before

pub returns-clause-inside : goal.returns-clause-inside
returns-clause-inside c = rw (
  plain_len c.self.inside.cord c.args.self.now c.self.invariant c.self.view_is,
  plain_len c.pattern.inside.cord c.args.pattern.now c.pattern.invariant c.pattern.view_is,
) at c.in-Ok.ensures.within
