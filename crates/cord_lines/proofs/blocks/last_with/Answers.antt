use Rattle.cord_lines.proofs.Common.{AreFew, Counts, ap, arith, plus, subst, sym, ◌∙◌}
use Rattle.cord_lines.proofs.Sums.{none_yet, then_next, few_after}
use Rattle.cord_lines.proofs.blocks.last_with.Goals as goal

pub loop-index-init : goal.loop-index-init
loop-index-init g c = record { sum = none_yet g.T.Counted.part c.args.others c.args.parts.now; most = c.requires.most }

pub plus-after-requires : goal.plus-after-requires
plus-after-requires g c =
    subst (λ (a : Counts). AreFew (plus c.loop-index.before a)) (sym (c.counts.ensures ∙ ap g.T.Counted.part c.index-parts-index.is))
    (few_after g.T.Counted.part c.args.others c.loop-index.before c.args.parts.now c.loop-index.index c.index-parts-index.result c.loop-index-test.true
    c.loop-index.invariant.sum c.requires.few)

pub loop-index-preserved : goal.loop-index-preserved
loop-index-preserved g c = record {
  sum = then_next g.T.Counted.part c.args.others c.loop-index.before c.args.parts.now c.loop-index.index c.index-parts-index.result
      c.loop-index-test.true c.loop-index.invariant.sum c.plus-after.result
      (c.plus-after.ensures ∙ ap (plus c.loop-index.before) (c.counts.ensures ∙ ap g.T.Counted.part c.index-parts-index.is));
  most = omega (arith, c.of.ensures, c.if-target-of.false);
}
