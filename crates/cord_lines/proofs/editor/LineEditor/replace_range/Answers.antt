use Rattle.cord_lines.proofs.Common.{arith, sym}
use Rattle.cord_lines.proofs.Edits.{capped}
use Rattle.cord_lines.proofs.editor.LineEditor.replace_range.Goals as goal

pub invariant_of-self-2 : goal.invariant_of-self-2
invariant_of-self-2 c = c.in_ok-edited_from.ensures.index c.self.invariant
    (capped c.self.inside.text c.in_ok-after.after c.args.text.now c.args.start c.args.count c.min-from.result c.min-removed.result
    c.len.result c.in_ok-after.ensures.text (omega (arith, c.min-from.ensures, c.len-len.ensures.value))
    (omega (arith, c.min-removed.ensures, c.len-len.ensures.value)) (sym c.len.ensures.value))
