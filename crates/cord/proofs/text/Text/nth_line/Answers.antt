use Rattle.std.proofs.Common.{◌-◌, ℕ, List, take, drop, Some, ap, sym, ◌∙◌, arith}
use Rattle.cord.specs.Lines.{bare_lines}
use Rattle.cord.proofs.LineNumbers.{IsLineStart, no_line, line_there}
use Rattle.cord.proofs.text.Text.nth_line.Goals as goal

pub returns-then-start-len : goal.returns-then-start-len
returns-then-start-len c =
    let x = c.args.self.now in
    let start = c.line_start-start.result in
    let i : IsLineStart x c.args.n start = record { inside = c.line_start-start.ensures.inside; rest = c.line_start-start.ensures.line } in
    record { line = sym (no_line x c.args.n start i (omega (arith, c.if-start-len.true, c.len.ensures.value))) }

pub returns : goal.returns
returns c =
    let x = c.args.self.now in
    let start = c.line_start-start.result in
    let end = c.line_end-end.result in
    let i : IsLineStart x c.args.n start = record { inside = c.line_start-start.ensures.inside; rest = c.line_start-start.ensures.line } in
    record {
      line = ap (λ (y : List ℕ). Some y) c.in_ok-line.ensures.text ∙ sym
          (line_there x c.args.n start i (take (end.0 - start) (drop start x)) (bare_lines (drop end.1 x)) c.line_end-end.ensures.line);
    }
