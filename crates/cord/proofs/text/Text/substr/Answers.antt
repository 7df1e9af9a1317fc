use Rattle.std.proofs.Common.{refl, ◌∙◌}
use Rattle.cord.specs.Plain.{no_table}
use Rattle.cord.proofs.PlainTexts.{plain_of, substring_has}
use Rattle.cord.proofs.text.Text.substr.Goals as goal

pub invariant_of-result : goal.invariant_of-result
invariant_of-result c =
    let made = c.in_ok-cord.ensures.made in
    plain_of _ c.in_ok-cord.cord (rw made at c.substr.ensures.sound)
    (substring_has c.args.start c.args.count c.self.inside.cord c.in_ok-cord.cord c.self.invariant (rw made at c.substr.ensures.over))

pub returns : goal.returns
returns c =
    let over = rw c.in_ok-cord.ensures.made at c.substr.ensures.over in
    let h = substring_has c.args.start c.args.count c.self.inside.cord c.in_ok-cord.cord c.self.invariant over in
    record { text = h.bytes no_table ∙ (rw c.self.view_is refl) }
