use Rattle.std.proofs.Common.{refl, ◌∙◌}
use Rattle.cord.proofs.Editors.{edited_by_text, bytes_edited_by_text}
use Rattle.cord.proofs.editor.TextEditor.replace_range.Goals as goal

pub invariant_of-self-2 : goal.invariant_of-self-2
invariant_of-self-2 c = edited_by_text _ _ _ _ _ _ c.self.invariant c.as_cord.ensures.text c.in_ok-splice.ensures.over

pub returns-clause-text : goal.returns-clause-text
returns-clause-text c = bytes_edited_by_text _ _ _ _ _ _ c.self.invariant c.as_cord.ensures.text c.in_ok-splice.ensures.over
    ∙ (rw c.self.view_is refl)
