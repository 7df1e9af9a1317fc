use Rattle.cord_search.proofs.Common.{arith}
use Rattle.cord_search.proofs.Lemmas.{take_on}
use Rattle.cord_search.proofs.slices.common_prefix.Goals as goal

pub loop-done-preserved : goal.loop-done-preserved
loop-done-preserved c = record {
  in_range = omega (arith, c.loop-done-test.true, c.loop-done.invariant.in_range);
  same = take_on c.args.left.now c.args.right.now c.loop-done.done 64 (c.are_same.ensures c.if-are_same.true) c.loop-done.invariant.same;
}
