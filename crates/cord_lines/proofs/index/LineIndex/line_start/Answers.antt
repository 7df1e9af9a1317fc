use Rattle.cord_lines.proofs.Common.{after_ends, ap, arith, sym, ℕ, ◌∙◌}
use Rattle.cord_lines.proofs.Ends.{none_passed}
use Rattle.cord_lines.proofs.Cuts.{cut_from, modest_by, past_counts}
use Rattle.cord_lines.proofs.index.LineIndex.line_start.Goals as goal

pub returns-then-n-eq0 : goal.returns-then-n-eq0
returns-then-n-eq0 c = λ is. sym (ap (λ (n : ℕ). after_ends n c.args.text.now) c.if-n-eq0.true ∙ none_passed c.args.text.now)

pub before_line-before-requires-clause-modest : goal.before_line-before-requires-clause-modest
before_line-before-requires-clause-modest c = modest_by c.self.inside.blocks c.self.invariant.0

pub returns : goal.returns
returns c = λ is. c.end_from.ensures ∙ past_counts c.args.text.now c.before_line-before.result c.min-from.result c.args.n
    (c.before_line-before.ensures.counts (cut_from c.self.inside.blocks c.self.view_is is)) (omega (arith, c.min-from.ensures, c.len-2.ensures.value))
    c.before_line-before.ensures.few
