use Rattle.cord_search.proofs.Common.{IsSpanUpTo, arith}
use Rattle.cord_search.proofs.Lemmas.{last_found, last_none, last_on, last_past, set_valid, span_fits}
use Rattle.cord_search.proofs.bytes.last_before.Given.{Over}
use Rattle.cord_search.proofs.bytes.last_before.Goals.{After-span_up_to-span}
use Rattle.cord_search.proofs.bytes.last_before.Goals as goal

-- the span is what the text has up to the end
span_is : (g : Over) (c : After-span_up_to-span g) → IsSpanUpTo c.args.x.now c.loop-end.end c.span_up_to-span.result
span_is g c = rw c.loop-end.invariant.position.cord at c.span_up_to-span.ensures.span

pub loop-end-init : goal.loop-end-init
loop-end-init g c = record {
  high = c.requires.high;
  none = c.requires.none;
  position = record {
    cord = c.set-position.ensures.cord;
    valid = rw c.set-position.ensures.index (set_valid c.args.x.now c.args.at c.requires.inside);
  };
}

pub span_up_to-span-requires-clause-inside : goal.span_up_to-span-requires-clause-inside
span_up_to-span-requires-clause-inside g c = rw c.loop-end.invariant.position.cord
    (omega (arith, c.loop-end.invariant.high, c.requires.inside))

pub last_piece-requires-clause-fits : goal.last_piece-requires-clause-fits
last_piece-requires-clause-fits g c = span_fits c.loop-end.invariant.none.read
    (span_is g (goal.at.last_piece-requires-clause-fits g c).After-span_up_to-span).span c.requires.fits

pub loop-end-preserved-in-Some : goal.loop-end-preserved-in-Some
loop-end-preserved-in-Some g c =
    let before = c.loop-end.invariant in
    record {
      high = omega (arith, before.high);
      none = last_past c.args.at before.none (span_is g (goal.at.loop-end-preserved-in-Some g c).After-span_up_to-span) c.in-Some.ensures.run
          (record { sound = c.set-position.ensures.sound; fits = c.requires.fits });
      position = rw before.position.cord at c.span_up_to-span.ensures.moved;
    }

pub returns-in-Some-memrchr : goal.returns-in-Some-memrchr
returns-in-Some-memrchr g c = last_found c.args.at c.loop-end.invariant.none c.in_ok-piece.ensures
    (span_is g (goal.at.returns-in-Some-memrchr g c).After-span_up_to-span) c.requires.fits c.memrchr.ensures c.in-Some-memrchr.is
    c.loop-end.invariant.high

pub loop-end-preserved : goal.loop-end-preserved
loop-end-preserved g c =
    let before = c.loop-end.invariant in
    record {
      high = omega (arith, before.high);
      none = last_on c.args.at before.none c.in_ok-piece.ensures (span_is g (goal.at.loop-end-preserved g c).After-span_up_to-span) c.requires.fits
          c.memrchr.ensures c.in-None.is;
      position = rw before.position.cord at c.span_up_to-span.ensures.moved;
    }

pub returns : goal.returns
returns g c = last_none c.args.x.now c.args.byte c.args.at c.loop-end.end c.loop-end-test.false c.loop-end.invariant.none
