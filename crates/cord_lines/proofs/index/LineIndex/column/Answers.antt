use Rattle.cord_lines.proofs.Common.{after_ends, ap, arith, ends_in, take, ℕ, ◌∙◌, ◌≡◌}
use Rattle.cord_lines.proofs.Linings.{begins_before}
use Rattle.cord_lines.proofs.index.LineIndex.column.Goals as goal

pub returns : goal.returns
returns c = λ is.
    let x = c.args.text.now in
    let begin : c.line_start-start.result ≡ after_ends (ends_in (take c.args.place x)) x =
    c.line_start-start.ensures is ∙ ap (λ (n : ℕ). after_ends n x) (c.line_of.ensures is) in
    omega (arith, begin, begins_before c.args.place x, c.min.ensures, c.len.ensures.value, c.saturating_sub.ensures)
