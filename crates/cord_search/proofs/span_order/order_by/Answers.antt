use Rattle.cord_search.proofs.Common.{ap, arith, nat_cmp, nat_list_cmp_total, slice_cmp, span_bytes, span_len, sym, take, tied_itself, ℕ, ◌∙◌, ◌≡◌}
use Rattle.cord_search.proofs.Lemmas.{answered, next_apart, next_same, shown_by, shown_so, span_whole}
use Rattle.cord_search.proofs.span_order.order_by.Goals as goal

pub loop-done-preserved : goal.loop-done-preserved
loop-done-preserved g c = record {
  in_range = omega (arith, c.min-count.ensures, c.len.ensures, c.len-in-loop-done.ensures, c.loop-done-test.true);
  same = shown_by c.loop-done.invariant.same c.in_ok-piece.ensures c.in_ok-other_piece.ensures
      (λ t held same one other. next_same (span_bytes t c.args.span) (span_bytes t c.args.other) c.loop-done.done c.min-count.result
      c.in_ok-piece.piece.now c.in_ok-other_piece.other_piece.now same one other c.in_ok-piece.ensures.always
      c.in_ok-other_piece.ensures.always (sym c.order_of.ensures ∙ c.in-Equal.is));
}

pub returns-in_default : goal.returns-in_default
returns-in_default g c = answered tt (shown_by c.loop-done.invariant.same c.in_ok-piece.ensures c.in_ok-other_piece.ensures (λ t held same one other. next_apart (span_bytes t c.args.span) (span_bytes t c.args.other)
    c.loop-done.done c.min-count.result c.in_ok-piece.piece.now c.in_ok-other_piece.other_piece.now same one other
    c.in_ok-piece.ensures.always c.in_ok-other_piece.ensures.always c.order_of.result c.order_of.ensures c.in_default.not-Equal))

pub returns : goal.returns
returns g c =
    let all : c.loop-done.done ≡ span_len c.args.span = omega (arith, c.loop-done-test.false, c.len.ensures, c.loop-done.invariant.in_range)
    in
    answered tt (shown_so c.loop-done.invariant.same (λ t held same.
    let u = span_bytes t c.args.span in
    let v = span_bytes t c.args.other in
    let one : u ≡ v = sym (span_whole t c.args.span) ∙ ap (λ (m : ℕ). take m u) (sym all) ∙ same
    ∙ ap (λ (m : ℕ). take m v) (all ∙ sym c.requires.len) ∙ span_whole t c.args.other in
    sym (tied_itself nat_list_cmp_total u) ∙ ap (slice_cmp nat_cmp u) one))
