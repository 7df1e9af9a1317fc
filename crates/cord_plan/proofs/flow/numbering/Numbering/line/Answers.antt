use Rattle.std.specs.Prelude.{◌≡◌, ◌-◌}
use Rattle.cord_plan.proofs.Common.{List, ℕ, Some, drop, length, take, refl, ap, ◌∙◌, slice_get, slice_get_read, slice_get_within}
use Rattle.cord_plan.proofs.Common.{NumberedLine}
use Rattle.cord_plan.proofs.Numbers.{line_numbered}
use Rattle.cord_plan.proofs.flow.numbering.Numbering.line.Goals as goal

pub returns : goal.returns
returns c = λ l there.
    let lines = c.args.self.now.lines.items in
    let line = c.index-line.result.now in
    let here : slice_get lines c.args.place ≡ Some line =
    slice_get_read lines (length lines) c.args.place line refl (slice_get_within lines c.args.place there.0 there.1) c.index-line.ensures in
    let other = there.1 in
    let same : line ≡ there.0 = cc in
    line_numbered c.args.self.now l there.0 _ there.2 (c.widened.ensures ∙ ap (λ (z : NumberedLine). z.target) same)
    (ap (λ (ns : List ℕ). take (line.end - line.start) (drop line.start ns)) c.deref.ensures.value
    ∙ ap (λ (z : NumberedLine). take (z.end - z.start) (drop z.start c.args.self.now.read.items)) same)
