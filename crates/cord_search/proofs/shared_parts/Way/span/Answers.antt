use Rattle.cord_search.proofs.Common.{span_on, within_on}
use Rattle.cord_search.proofs.Lemmas.{side_at}
use Rattle.cord_search.proofs.shared_parts.Way.span.Goals as goal

pub loop-side-preserved : goal.loop-side-preserved
loop-side-preserved c =
    let first = c.args.last in
    let spot = c.loop-side.spot in
    let side = c.in-Some.side in
    let before = c.loop-side.invariant in
    record {
      spot = c.in-Some.ensures.side.spot;
      low = c.in-Some.ensures.low;
      room = c.in-Some.ensures.room;
      within = within_on first.node.now first.place spot.node.now spot.place side.node.now side.place before.within c.in-Some.ensures.side.within;
      way = λ d held way. c.step.ensures.way d (side_at held before.within before.spot) (before.way d held way);
    }

pub returns-clause-way : goal.returns-clause-way
returns-clause-way c = λ d held way. c.step.ensures.way d (side_at held c.loop-side.invariant.within c.loop-side.invariant.spot)
    (c.loop-side.invariant.way d held way)

pub returns-clause-span : goal.returns-clause-span
returns-clause-span c = span_on c.args.last.node.now c.args.last.place c.loop-side.spot.node.now c.loop-side.spot.place _
    c.loop-side.invariant.within c.span.ensures.span
