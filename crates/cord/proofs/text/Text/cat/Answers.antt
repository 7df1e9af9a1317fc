use Rattle.std.proofs.Common.{refl, ◌∙◌}
use Rattle.cord.specs.Plain.{no_table}
use Rattle.cord.proofs.PlainTexts.{plain_of, cat_has}
use Rattle.cord.proofs.text.Text.cat.Goals as goal

pub invariant_of-result : goal.invariant_of-result
invariant_of-result c =
    let h = cat_has c.left.inside.cord c.right.inside.cord c.in_ok-cord.cord c.left.invariant c.right.invariant c.in_ok-cord.ensures.over in
    plain_of _ c.in_ok-cord.cord c.in_ok-cord.ensures.sound h

pub returns-clause-text : goal.returns-clause-text
returns-clause-text c =
    let h = cat_has c.left.inside.cord c.right.inside.cord c.in_ok-cord.cord c.left.invariant c.right.invariant c.in_ok-cord.ensures.over in
    h.bytes no_table ∙ (rw (c.left.view_is, c.right.view_is) refl)
