use Rattle.cord_lines.proofs.Common.{AreFew, Block, List, arith, subst, sym, total, ◌+◌, ◌∙◌}
use Rattle.cord_lines.proofs.Sums.{one_replaced, replaced_few}
use Rattle.cord_lines.proofs.blocks.Blocks.set_each.Goals as goal

pub overflow_add-start : goal.overflow_add-start
overflow_add-start c = omega (arith, c.requires.fits.inside, c.requires.short, c.loop-offset-test.true)

pub set-requires-clause-few : goal.set-requires-clause-few
set-requires-clause-few c = subst (λ (ys : List Block). AreFew (total ys))
    (sym (one_replaced c.args.self.now c.args.fresh.now c.args.start c.requires.fits c.loop-offset.self c.loop-offset.offset
    (record { bytes = 0; ends = 0; chars = 0 }) c.loop-offset.invariant c.loop-offset-test.true))
    (replaced_few c.args.self.now c.args.fresh.now c.args.start c.requires.fits (c.loop-offset.offset + 1))

pub loop-offset-preserved : goal.loop-offset-preserved
loop-offset-preserved c = c.set.ensures ∙ one_replaced c.args.self.now c.args.fresh.now c.args.start c.requires.fits c.loop-offset.self c.loop-offset.offset
    (record { bytes = 0; ends = 0; chars = 0 }) c.loop-offset.invariant c.loop-offset-test.true
