use Rattle.std.proofs.Common.{◌∙◌}
use Rattle.cord.specs.Plain.{no_table}
use Rattle.cord.proofs.PlainTexts.{plain_of}
use Rattle.cord.proofs.Growths.{cord_has}
use Rattle.cord.proofs.editor.TextEditor.to_text.Goals as goal

pub invariant_of-result : goal.invariant_of-result
invariant_of-result c =
    let made = c.in_ok-cord.ensures.made in
    plain_of _ c.in_ok-cord.cord (rw made at c.to_cord.ensures.sound)
    (cord_has c.self.inside.buffer.text c.in_ok-cord.cord c.self.invariant (rw made at c.to_cord.ensures.over))

pub returns-clause-text : goal.returns-clause-text
returns-clause-text c =
    let over = rw c.in_ok-cord.ensures.made at c.to_cord.ensures.over in
    (cord_has c.self.inside.buffer.text c.in_ok-cord.cord c.self.invariant over).bytes no_table ∙ c.self.view_is
