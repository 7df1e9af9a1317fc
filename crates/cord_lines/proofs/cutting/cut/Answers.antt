use Rattle.cord_lines.proofs.Common.{AreBlocksOf, AreNarrow, ap, arith, counts_of, drop, subst, sym, take, ℕ, ◌+◌, ◌-◌, ◌∙◌, ◌≡◌}
use Rattle.cord_lines.proofs.Cuts.{one_piece_more, range_more, short, narrow}
use Rattle.cord_lines.proofs.cutting.cut.Goals as goal

pub of-requires : goal.of-requires
of-requires c =
    let n = c.next_block-counts.result.bytes in
    let rest = drop c.loop-place.place c.args.text.now in
    subst AreNarrow (sym c.next_block-counts.ensures.counts) (narrow (take n rest) (omega (arith, short n rest, c.next_block-counts.ensures.few)))

pub loop-place-init : goal.loop-place-init
loop-place-init c =
    let none : c.args.from - c.args.from ≡ 0 = omega arith in
    record {
      cut = rw c.in_ok-blocks.ensures.items (ap (λ (n : ℕ). take n (drop c.args.from c.args.text.now)) none);
      from = omega arith;
      to = c.requires.range.ordered;
    }

pub loop-place-preserved : goal.loop-place-preserved
loop-place-preserved c =
    let x = c.args.text.now in
    let from = c.args.from in
    let place = c.loop-place.place in
    let n = c.next_block-counts.result.bytes in
    let piece : n ≡ (place + n) - place = omega arith in
    record {
      cut = rw c.in_ok-push.ensures.items (one_piece_more c.loop-place.blocks.items c.of.result (take (place - from) (drop from x))
          (take ((place + n) - place) (drop place x)) (take ((place + n) - from) (drop from x)) c.loop-place.invariant.cut
          (c.of.ensures ∙ c.next_block-counts.ensures.counts ∙ ap (λ (k : ℕ). counts_of (take k (drop place x))) piece)
          (range_more x from place (place + n) c.loop-place.invariant.from (omega arith)));
      from = omega (arith, c.loop-place.invariant.from);
      to = c.next_block-counts.ensures.inside;
    }

pub returns : goal.returns
returns c =
    let all : c.loop-place.place ≡ c.args.to = omega (arith, c.loop-place.invariant.to, c.loop-place-test.false) in
    record {
      cut = subst (λ (n : ℕ). AreBlocksOf c.loop-place.blocks.items (take (n - c.args.from) (drop c.args.from c.args.text.now))) all c.loop-place.invariant.cut;
    }
