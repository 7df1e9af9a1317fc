use Rattle.std.proofs.Common.{refl, ◌∙◌}
use Rattle.cord.specs.Plain.{no_table}
use Rattle.cord.proofs.PlainTexts.{plain_of, appended_has}
use Rattle.cord.proofs.text.Text.append_bytes.Goals as goal

pub invariant_of-result : goal.invariant_of-result
invariant_of-result c =
    let h = appended_has c.self.inside.cord c.args.bytes.now c.in_ok-cord.cord c.self.invariant c.in_ok-cord.ensures.over in
    plain_of _ c.in_ok-cord.cord c.in_ok-cord.ensures.sound h

pub returns-clause-text : goal.returns-clause-text
returns-clause-text c =
    let h = appended_has c.self.inside.cord c.args.bytes.now c.in_ok-cord.cord c.self.invariant c.in_ok-cord.ensures.over in
    h.bytes no_table ∙ (rw c.self.view_is refl)
