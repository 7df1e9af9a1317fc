use Rattle.std.proofs.Common.{◌≡◌, ℕ, ◌-◌, ◌<◌, ◌≤◌, List, [], length, ◌∙◌, sym, ap, arith}
use Rattle.std.specs.Prelude.{min}
use Rattle.std.proofs.lemmas.Grind.{common_steps}
use Rattle.cord_core.specs.Texts.{last}
use Rattle.cord.specs.Places.{last_before}
use Rattle.cord.specs.Plain.{no_lengths}
use Rattle.cord.proofs.Found.{last_clipped, last_up_to, below_end}
use Rattle.cord.proofs.PlainTexts.{plain_len}
use Rattle.cord.proofs.text.Text.rfind_byte.Goals as goal

pub returns-then-end-eq0-clause-last : goal.returns-then-end-eq0-clause-last
returns-then-end-eq0-clause-last c =
    let none : min c.args.end (length c.args.self.now) ≡ 0 = grind (arith, common_steps) in
    sym (ap (λ (n : ℕ). last_before c.args.self.now n c.args.byte) none) ∙ last_clipped c.args.self.now c.args.byte c.args.end

pub rchr-requires-clause-fits : goal.rchr-requires-clause-fits
rchr-requires-clause-fits c = c.self.invariant.over.fits no_lengths

pub returns-clause-last : goal.returns-clause-last
returns-clause-last c =
    let x = c.args.self.now in
    let same : c.min-end.result ≡ min c.args.end (length c.args.self.now) = grind (arith, common_steps) in
    let some : 0 < c.min-end.result = grind (arith, common_steps) in
    c.in-Ok.ensures.last [] tt
    ∙ ap (λ (y : List ℕ). last y (c.min-end.result - 1) c.args.byte) c.self.view_is
    ∙ last_up_to x c.args.byte c.min-end.result some
    ∙ ap (λ (n : ℕ). last_before x n c.args.byte) same
    ∙ last_clipped x c.args.byte c.args.end

pub returns-clause-before : goal.returns-clause-before
returns-clause-before c =
    let some : 0 < c.min-end.result = grind (arith, common_steps) in
    let low : c.min-end.result ≤ c.args.end = grind (arith, common_steps) in
    below_end c.min-end.result c.args.end some low c.in-Ok.place c.in-Ok.ensures.up_to

pub returns-clause-inside : goal.returns-clause-inside
returns-clause-inside c = rw (plain_len c.self.inside.cord c.args.self.now c.self.invariant c.self.view_is) at c.in-Ok.ensures.within
