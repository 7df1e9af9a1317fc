use Rattle.cord_lines.proofs.Common.{arith, ◌∙◌}
use Rattle.cord_lines.proofs.Linings.{keeps_end}
use Rattle.cord_lines.proofs.index.lacks_end_after.Goals as goal

pub returns-then-edit-len : goal.returns-then-edit-len
returns-then-edit-len c = λ before len lacks edit. c.lacks_end_of.ensures

pub returns-else-edit-len : goal.returns-else-edit-len
returns-else-edit-len c = λ before len lacks edit.
    lacks ∙ keeps_end before c.args.after.now c.args.edit.start c.args.edit.removed c.args.edit.inserted edit
    (omega (arith, len, c.requires, c.if-edit-len.false))
