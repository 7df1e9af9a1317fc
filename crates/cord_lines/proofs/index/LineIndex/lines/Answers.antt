use Rattle.cord_lines.proofs.Common.{Bool, Indexed, ap, arith, cond, ends_in, false, refl, sym, true, ℕ, ◌+◌, ◌∙◌, ◌≡◌, ◌≤◌}
use mir.Val.{bool_byte}
use Rattle.cord_lines.proofs.Countings.{alike}
use Rattle.cord_lines.proofs.Linings.{line_count}
use Rattle.cord_lines.proofs.Cuts.{modest_by, cut_from, total_is}
use Rattle.cord_lines.proofs.index.LineIndex.lines.Goals as goal

byte_is : (is : Bool) → bool_byte is ≡ cond is 1 0
byte_is true = refl
byte_is false = refl

unit_le : (is : Bool) → cond is 1 0 ≤ 1
unit_le true = omega arith
unit_le false = omega arith

pub overflow_add-result : goal.overflow_add-result
overflow_add-result c =
    let all = alike c.counts.ensures in
    omega (arith, (modest_by c.self.inside.blocks c.self.invariant.0).ends, c.from.ensures ∙ byte_is c.self.inside.lacks_end, unit_le c.self.inside.lacks_end)

pub returns : goal.returns
returns c = λ x is.
    let all = alike (c.counts.ensures ∙ total_is c.self.inside.blocks x (cut_from c.self.inside.blocks c.self.view_is is)) in
    let last = c.from.ensures ∙ byte_is c.self.inside.lacks_end ∙ ap (λ (i : Indexed). cond i.lacks_end 1 0) c.self.view_is ∙ ap (λ (b : Bool). cond b 1 0) is.end in
    ap (λ (n : ℕ). n + c.from.result) all.ends ∙ ap (λ (n : ℕ). ends_in x + n) last ∙ sym (line_count x)
