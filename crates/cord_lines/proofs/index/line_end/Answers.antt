use Rattle.cord_lines.proofs.Common.{arith, false, is_inside_line, refl, slice_get, sym, true, ◌-◌, ◌∙◌}
use Rattle.cord_lines.proofs.Linings.{later, line_from}
use Rattle.cord_lines.proofs.index.line_end.Goals as goal

pub overflow_sub-end : goal.overflow_sub-end
overflow_sub-end c = omega (arith, c.end_from-end.ensures, later c.args.text.now c.args.start c.requires)

pub overflow_sub-result : goal.overflow_sub-result
overflow_sub-result c = omega (arith, c.end_from-end.ensures, later c.args.text.now c.args.start c.requires)

pub returns-then-with_end-clause-line : goal.returns-then-with_end-clause-line
returns-then-with_end-clause-line c = rw c.if-with_end.true (line_from true (is_inside_line (slice_get c.args.text.now (c.end_from-end.result - 1)))
    c.args.text.now c.args.start c.end_from-end.result c.requires c.end_from-end.ensures refl)

pub returns-then-is_inside_line_at-clause-line : goal.returns-then-is_inside_line_at-clause-line
returns-then-is_inside_line_at-clause-line c = rw c.if-with_end.false (line_from false true c.args.text.now c.args.start c.end_from-end.result c.requires
    c.end_from-end.ensures (sym c.if-is_inside_line_at.true ∙ c.is_inside_line_at.ensures))

pub returns-else-is_inside_line_at-clause-line : goal.returns-else-is_inside_line_at-clause-line
returns-else-is_inside_line_at-clause-line c = rw c.if-with_end.false (line_from false false c.args.text.now c.args.start c.end_from-end.result c.requires
    c.end_from-end.ensures (sym c.if-is_inside_line_at.false ∙ c.is_inside_line_at.ensures))

pub returns-else-is_inside_line_at-clause-ordered : goal.returns-else-is_inside_line_at-clause-ordered
returns-else-is_inside_line_at-clause-ordered c = omega (arith, c.end_from-end.ensures, later c.args.text.now c.args.start c.requires)
