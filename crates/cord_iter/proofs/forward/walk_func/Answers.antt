use Rattle.cord_iter.proofs.Common.{Table, arith, refl, ◌+◌, ◌≡◌, ◌≤◌}
use Rattle.cord_iter.proofs.Lemmas.{failed_first, range_cut, range_on, stopped_first, then_second, walked_here}
use Rattle.cord_iter.proofs.forward.walk_func.Goals as goal

pub loop-done-init : goal.loop-done-init
loop-done-init g c = record { in_range = omega arith; walks = walked_here (λ file_system agrees. refl) }

pub loop-done-preserved : goal.loop-done-preserved
loop-done-preserved g c = record {
  in_range = omega (arith, c.piece_len-count.ensures.inside);
  walks = then_second (range_on (λ (t : Table). t c.args.id.0) c.args.start c.loop-done.done c.piece_len-count.result)
      c.loop-done.invariant.walks (rw c.if-branch.false at c.in_ok-walk_piece.ensures);
}

pub returns-then-branch : goal.returns-then-branch
returns-then-branch g c =
    let source = λ (t : Table). t c.args.id.0 in
    let done = c.loop-done.done in
    let count = c.piece_len-count.result in
    let inside : done + count ≤ c.args.len = omega (arith, c.piece_len-count.ensures.inside) in
    stopped_first (range_cut source c.args.start (done + count) c.args.len inside) (then_second (range_on source c.args.start done count)
    c.loop-done.invariant.walks (rw c.if-branch.true at c.in_ok-walk_piece.ensures))

pub returns-in_err-walk_piece : goal.returns-in_err-walk_piece
returns-in_err-walk_piece g c =
    let source = λ (t : Table). t c.args.id.0 in
    let done = c.loop-done.done in
    let count = c.piece_len-count.result in
    let inside : done + count ≤ c.args.len = omega (arith, c.piece_len-count.ensures.inside) in
    failed_first (range_cut source c.args.start (done + count) c.args.len inside) c.from_residual.ensures.0
    (then_second (range_on source c.args.start done count) c.loop-done.invariant.walks c.in_err-walk_piece.ensures)

pub returns : goal.returns
returns g c =
    let all : c.loop-done.done ≡ c.args.len = omega (arith, c.loop-done-test.false, c.loop-done.invariant.in_range) in
    rw all at c.loop-done.invariant.walks
