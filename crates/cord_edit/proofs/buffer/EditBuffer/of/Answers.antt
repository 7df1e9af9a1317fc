use Rattle.std.proofs.Common.{◌∙◌}
use Rattle.cord_edit.specs.inner.Gaps.{gap_bytes}
use Rattle.cord_edit.proofs.Lists.{around_nothing}
use Rattle.cord_edit.proofs.Editing.{text_of}
use Rattle.cord_edit.proofs.buffer.EditBuffer.of.Goals as goal

pub returns-clause-text : goal.returns-clause-text
returns-clause-text c = around_nothing c.in_ok-cords.cords.text (gap_bytes c.in_ok-gap.gap) c.len-len.result c.in_ok-gap.ensures
    ∙ c.in_ok-cords.ensures.text

pub returns-clause-over : goal.returns-clause-over
returns-clause-over c = text_of _ c.args.cord.now (returns-clause-text c)
