use Rattle.cord_search.proofs.Common.{arith}
use Rattle.cord_search.proofs.Lemmas.{alike_on, answered, cord_limit, no_different, shown_on, shown_so, span_fits, spans_differ, spans_same}
use Rattle.cord_search.proofs.order.compare.Goals as goal

pub overflow_add-i : goal.overflow_add-i
overflow_add-i g c = omega (arith, c.requires.left_inside, c.loop-done-test.true, c.min-both.ensures, cord_limit c.args.x.now c.requires.left.sound)

pub overflow_add-j : goal.overflow_add-j
overflow_add-j g c = omega (arith, c.requires.right_inside, c.loop-done-test.true, c.min-both.ensures, cord_limit c.args.y.now c.requires.right.sound)

pub order_of_spans-requires-clause-left_fits : goal.order_of_spans-requires-clause-left_fits
order_of_spans-requires-clause-left_fits g c = span_fits c.loop-done.invariant.same.read c.in-Apart.ensures.ahead.0 c.requires.left.fits

pub order_of_spans-requires-clause-right_fits : goal.order_of_spans-requires-clause-right_fits
order_of_spans-requires-clause-right_fits g c = span_fits c.loop-done.invariant.same.read c.in-Apart.ensures.ahead.1 c.requires.right.fits

pub loop-done-preserved-in-Same : goal.loop-done-preserved-in-Same
loop-done-preserved-in-Same g c = alike_on c.requires.left c.requires.right c.loop-done.invariant
    c.in-Same.count c.in-Same.ensures.ahead c.in-Same.ensures.left_way c.in-Same.ensures.right_way

pub loop-done-preserved : goal.loop-done-preserved
loop-done-preserved g c = record {
  in_range = omega (arith, c.len-done.ensures, c.in-Apart.ensures.ahead.3, c.loop-done-test.true);
  same = rw c.len-done.ensures (shown_on c.loop-done.invariant.same c.in_ok-ordering-in-Apart.ensures
      (λ t held same order. spans_same c.args.i c.args.j c.loop-done.done held c.in-Apart.ensures.ahead.0 c.in-Apart.ensures.ahead.1
      c.requires.left c.requires.right same c.in_ok-ordering-in-Apart.ordering c.in-Apart.ensures.ahead.2 order c.in-Equal.is));
  left_way = c.in-Apart.ensures.left_way;
  right_way = c.in-Apart.ensures.right_way;
}

pub returns-in_default : goal.returns-in_default
returns-in_default g c = answered tt (shown_on c.loop-done.invariant.same c.in_ok-ordering-in-Apart.ensures
    (λ t held same order. spans_differ c.args.i c.args.j c.loop-done.done held c.in-Apart.ensures.ahead.0 c.in-Apart.ensures.ahead.1
    c.requires.left c.requires.right same c.in_ok-ordering-in-Apart.ordering c.in-Apart.ensures.ahead.2 order c.args.left c.args.right
    (omega (arith, c.in-Apart.ensures.ahead.3, c.min-both.ensures, c.loop-done-test.true))
    (omega (arith, c.in-Apart.ensures.ahead.3, c.min-both.ensures, c.loop-done-test.true)) c.in_default.not-Equal))

pub returns : goal.returns
returns g c = answered tt (shown_so c.loop-done.invariant.same (λ t held same.
    rw c.cmp.ensures (no_different c.args.i c.args.left c.args.j c.args.right c.loop-done.done held c.requires.left c.requires.right
    c.requires.left_inside c.requires.right_inside (omega (arith, c.min-both.ensures, c.loop-done.invariant.in_range))
    (omega (arith, c.min-both.ensures, c.loop-done-test.false)) same)))
