use Rattle.cord_lines.proofs.Common.{List, Some, after_ends, ap, arith, drop, length, lines, lines_as, slice_get, sym, take, ℕ, ◌-◌, ◌<◌}
use Rattle.cord_lines.proofs.Common.{◌∙◌, ◌≡◌}
use Rattle.cord_lines.proofs.Linings.{nth, as_drop, as_none, get_after}
use Rattle.cord_lines.proofs.index.LineIndex.line_as.Goals as goal

pub returns-then-start-len : goal.returns-then-start-len
returns-then-start-len c = record {
  line = λ is.
      let x = c.args.text.now in
      sym (as_none c.args.with_end c.args.n x ((nth x c.args.n).none (omega (arith, c.line_start-start.ensures is, c.len.ensures.value, c.if-start-len.true))));
}

pub returns : goal.returns
returns c = record {
  line = λ is.
      let x = c.args.text.now in
      let w = c.args.with_end in
      let from = c.line_start-start.result in
      let start : from ≡ after_ends c.args.n x = c.line_start-start.ensures is in
      let lt : after_ends c.args.n x < length x = omega (arith, start, c.len.ensures.value, c.if-start-len.false) in
      let there : lines (drop from x) ≡ drop c.args.n (lines x) = ap (λ (n : ℕ). lines (drop n x)) start ∙ (nth x c.args.n).here lt in
      let line = take (c.line_end-end.result - from) (drop from x) in
      ap (λ (y : List ℕ). Some y) c.in_ok-line.ensures.text
      ∙ sym (get_after c.args.n (lines_as w x) line
      (ap (λ (ls : List (List ℕ)). slice_get ls 0) (sym (as_drop w c.args.n x (drop from x) there)) ∙ c.line_end-end.ensures.line));
}
