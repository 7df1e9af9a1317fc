use Rattle.cord_search.proofs.Common.{arith, length, ◌+◌, ◌<◌, ◌≤◌}
use Rattle.cord_search.proofs.Lemmas.{alike_on, answered, common_all, cord_limit, pieces_end, pieces_same, shown_by, shown_so, span_fits}
use Rattle.cord_search.proofs.periods.common_len.Goals as goal

pub overflow_add-i : goal.overflow_add-i
overflow_add-i g c = omega (arith, c.requires.left_inside, c.loop-done-test.true, cord_limit c.args.x.now c.requires.left.sound)

pub overflow_add-j : goal.overflow_add-j
overflow_add-j g c = omega (arith, c.requires.right_inside, c.loop-done-test.true, cord_limit c.args.y.now c.requires.right.sound)

pub first_piece-requires-clause-fits : goal.first_piece-requires-clause-fits
first_piece-requires-clause-fits g c = span_fits c.loop-done.invariant.same.read c.in-Apart.ensures.ahead.0 c.requires.left.fits

pub first_piece-requires-in-Apart-clause-fits : goal.first_piece-requires-in-Apart-clause-fits
first_piece-requires-in-Apart-clause-fits g c = rw c.first_piece.ensures.read.lengths
    (span_fits c.loop-done.invariant.same.read c.in-Apart.ensures.ahead.1 c.requires.right.fits)

pub loop-done-preserved-in-Same : goal.loop-done-preserved-in-Same
loop-done-preserved-in-Same g c = alike_on c.requires.left c.requires.right c.loop-done.invariant
    c.in-Same.count c.in-Same.ensures.ahead c.in-Same.ensures.left_way c.in-Same.ensures.right_way

pub loop-done-preserved : goal.loop-done-preserved
loop-done-preserved g c = record {
  in_range = omega (
    arith,
    c.agreeing-count.ensures.left,
    c.in_ok-piece-in-Apart.ensures.always.1,
    c.in-Apart.ensures.ahead.3,
    c.loop-done-test.true,
  );
  same = shown_by c.loop-done.invariant.same c.in_ok-piece-in-Apart.ensures c.in_ok-other-in-Apart.ensures
      (λ t held same piece other. pieces_same c.args.i c.args.j c.loop-done.done held c.in-Apart.ensures.ahead.0 c.in-Apart.ensures.ahead.1
      c.requires.left c.requires.right same c.in_ok-piece-in-Apart.piece.now c.in_ok-other-in-Apart.other.now c.agreeing-count.result
      c.agreeing-count.ensures.left c.agreeing-count.ensures.right c.in_ok-piece-in-Apart.ensures.always.1
      c.in_ok-other-in-Apart.ensures.always.1 piece other c.agreeing-count.ensures.same);
  left_way = c.in-Apart.ensures.left_way;
  right_way = c.in-Apart.ensures.right_way;
}

pub returns-then-count-both : goal.returns-then-count-both
returns-then-count-both g c =
    let n = c.agreeing-count.result in
    let left : n < length c.in_ok-piece-in-Apart.piece.now = omega (arith, c.if-count-both.true, c.min-both.ensures) in
    let right : n < length c.in_ok-other-in-Apart.other.now = omega (arith, c.if-count-both.true, c.min-both.ensures) in
    let inside : c.loop-done.done + n ≤ c.args.most =
    omega (arith, left, c.in_ok-piece-in-Apart.ensures.always.1, c.in-Apart.ensures.ahead.3, c.loop-done-test.true) in
    answered inside (shown_by c.loop-done.invariant.same c.in_ok-piece-in-Apart.ensures c.in_ok-other-in-Apart.ensures (λ t held same piece other. pieces_end c.args.i c.args.j c.loop-done.done held c.in-Apart.ensures.ahead.0
    c.in-Apart.ensures.ahead.1 c.requires.left c.requires.right same c.in_ok-piece-in-Apart.piece.now c.in_ok-other-in-Apart.other.now n
    c.agreeing-count.ensures.left c.agreeing-count.ensures.right c.in_ok-piece-in-Apart.ensures.always.1
    c.in_ok-other-in-Apart.ensures.always.1 piece other c.agreeing-count.ensures.same c.args.most inside left right
    (c.agreeing-count.ensures.differ left right)))

pub returns : goal.returns
returns g c =
    let before = c.loop-done.invariant in
    answered before.in_range (shown_so before.same (λ t held same. common_all t c.args.x.now c.args.i c.args.y.now c.args.j c.args.most
    c.loop-done.done before.in_range (omega (arith, c.loop-done-test.false)) same))
