use Rattle.cord.proofs.Editors.{buffer_of, bytes_of_buffer}
use Rattle.cord.proofs.editor.TextEditor.of.Goals as goal

pub invariant_of-result : goal.invariant_of-result
invariant_of-result c = buffer_of _ _ _ c.as_cord.ensures.text (rw c.in_ok-buffer.ensures.made at c.of.ensures.over)

pub returns : goal.returns
returns c =
    record { text = bytes_of_buffer _ _ _ c.as_cord.ensures.text (rw c.in_ok-buffer.ensures.made at c.of.ensures.over) }
