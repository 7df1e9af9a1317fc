use Rattle.cord_search.proofs.Common.{IsSpanOf, arith}
use Rattle.cord_search.proofs.Lemmas.{block_span, first_found, first_none, first_on, first_past, set_valid, span_fits}
use Rattle.cord_search.proofs.bytes.first_after.Given.{Over}
use Rattle.cord_search.proofs.bytes.first_after.Goals.{After-span_from-span}
use Rattle.cord_search.proofs.bytes.first_after.Goals as goal

-- the span is what the text has at the place
span_is : (g : Over) (c : After-span_from-span g) → IsSpanOf c.args.x.now c.loop-place.place c.span_from-span.result
span_is g c = rw c.loop-place.invariant.position.cord at c.span_from-span.ensures.span

pub loop-place-init : goal.loop-place-init
loop-place-init g c = record {
  low = c.requires.low;
  high = omega (arith, c.requires.inside, c.len-len.ensures.stored);
  none = c.requires.none;
  position = record {
    cord = c.set-position.ensures.cord;
    valid = rw c.set-position.ensures.index (set_valid c.args.x.now c.args.from c.requires.start);
  };
}

pub span_from-span-requires-clause-inside : goal.span_from-span-requires-clause-inside
span_from-span-requires-clause-inside g c = rw c.loop-place.invariant.position.cord
    (omega (arith, c.loop-place-test.true, c.len-len.ensures.stored))

pub first_piece-requires-clause-fits : goal.first_piece-requires-clause-fits
first_piece-requires-clause-fits g c = span_fits c.loop-place.invariant.none.read
    (block_span c.in_block-block.ensures (span_is g (goal.at.first_piece-requires-clause-fits g c).After-span_from-span)) c.requires.fits

pub loop-place-preserved-in-Some : goal.loop-place-preserved-in-Some
loop-place-preserved-in-Some g c =
    let span = span_is g (goal.at.loop-place-preserved-in-Some g c).After-span_from-span in
    let before = c.loop-place.invariant in
    record {
      low = omega (arith, before.low);
      high = omega (arith, c.in-Some.ensures.run.len, span.inside, c.len-len.ensures.stored);
      none = first_past c.args.from before.none span c.in-Some.ensures.run
          (record { sound = c.set-position.ensures.sound; fits = c.requires.fits });
      position = rw before.position.cord at c.span_from-span.ensures.moved;
    }

pub returns-in-Some-memchr : goal.returns-in-Some-memchr
returns-in-Some-memchr g c = first_found c.loop-place.invariant.none c.in_ok-piece.ensures (block_span c.in_block-block.ensures
    (span_is g (goal.at.returns-in-Some-memchr g c).After-span_from-span)) c.requires.fits c.memchr.ensures c.in-Some-memchr.is
    c.loop-place.invariant.low

pub loop-place-preserved : goal.loop-place-preserved
loop-place-preserved g c =
    let span = span_is g (goal.at.loop-place-preserved g c).After-span_from-span in
    let before = c.loop-place.invariant in
    record {
      low = omega (arith, before.low);
      high = omega (arith, c.in_ok-piece.ensures.always.1, c.in_block-block.ensures.few, span.inside, c.len-len.ensures.stored);
      none = first_on before.none c.in_ok-piece.ensures (block_span c.in_block-block.ensures span) c.requires.fits c.memchr.ensures c.in-None.is;
      position = rw before.position.cord at c.span_from-span.ensures.moved;
    }

pub returns : goal.returns
returns g c = first_none c.args.from c.loop-place.place c.loop-place.invariant.none
    (record { sound = c.set-position.ensures.sound; fits = c.requires.fits }) (omega (arith, c.loop-place-test.false, c.len-len.ensures.stored))
