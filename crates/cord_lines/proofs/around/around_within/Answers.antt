use Rattle.cord_lines.proofs.Common.{AreFew, Counts, IsModest, ap, plus, subst, sym, ◌+◌, ◌∙◌}
use Rattle.cord_lines.proofs.Cuts.{few_of, mark_at, modest_before}
use Rattle.cord_lines.proofs.Readings.{around_where}
use Rattle.cord_lines.proofs.around.around_within.Goals as goal

pub plus-end-requires : goal.plus-end-requires
plus-end-requires c = subst AreFew (c.get.ensures ∙ ap (λ (a : Counts). plus a c.get.result) (sym c.requires.found.found.before))
    (few_of (modest_before c.args.blocks.now (c.args.found.index + 1) c.requires.found.modest))

pub returns-then-end-place : goal.returns-then-end-place
returns-then-end-place c = around_where c.around_up_to.ensures (λ cut. mark_at c.args.blocks.now c.args.text.now cut (c.args.found.index + 1) c.plus-end.result
    (c.plus-end.ensures ∙ ap (λ (a : Counts). plus a c.get.result) c.requires.found.found.before ∙ sym c.get.ensures))

pub around_after-requires-clause-modest : goal.around_after-requires-clause-modest
around_after-requires-clause-modest c =
    subst IsModest (sym c.requires.found.found.before) (modest_before c.args.blocks.now c.args.found.index c.requires.found.modest)

pub returns : goal.returns
returns c = around_where c.around_after.ensures
    (λ cut. mark_at c.args.blocks.now c.args.text.now cut c.args.found.index c.args.found.before c.requires.found.found.before)
