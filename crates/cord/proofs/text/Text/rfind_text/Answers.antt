use Rattle.std.proofs.Common.{ℕ, List, [], ◌∙◌, ap}
use Rattle.cord_search.specs.LastTexts.{last_text}
use Rattle.cord.specs.Plain.{no_lengths, plain_bytes}
use Rattle.cord.proofs.PlainTexts.{plain_len}
use Rattle.cord.proofs.text.Text.rfind_text.Goals as goal

pub rstr-requires-clause-fits : goal.rstr-requires-clause-fits
rstr-requires-clause-fits c = c.self.invariant.over.fits no_lengths

pub rstr-requires-clause-pattern_fits : goal.rstr-requires-clause-pattern_fits
rstr-requires-clause-pattern_fits c = c.pattern.invariant.over.fits no_lengths

pub returns-clause-last : goal.returns-clause-last
returns-clause-last c =
    c.in-Ok.ensures.last [] tt
    ∙ ap (λ (x : List ℕ). last_text x c.args.end (plain_bytes c.pattern.inside.cord)) c.self.view_is
    ∙ ap (λ (s : List ℕ). last_text c.args.self.now c.args.end s) c.pattern.view_is

pub returns-clause-before : goal.returns-clause-before
returns-clause-before c =
    rw (plain_len c.pattern.inside.cord c.args.pattern.now c.pattern.invariant c.pattern.view_is) at c.in-Ok.ensures.before

pub returns-clause-inside : goal.returns-clause-inside
returns-clause-inside c = rw (
  plain_len c.self.inside.cord c.args.self.now c.self.invariant c.self.view_is,
  plain_len c.pattern.inside.cord c.args.pattern.now c.pattern.invariant c.pattern.view_is,
) at c.in-Ok.ensures.within
