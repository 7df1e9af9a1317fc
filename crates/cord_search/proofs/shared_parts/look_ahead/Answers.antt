use Rattle.cord_search.proofs.Common.{arith}
use Rattle.cord_search.proofs.Lemmas.{span_of, stops_alike}
use Rattle.cord_search.proofs.shared_parts.look_ahead.Goals as goal

pub returns-then-is_same-clause-ahead : goal.returns-then-is_same-clause-ahead
returns-then-is_same-clause-ahead c =
    let left = c.meet.ensures.left.spot in (
      omega (arith, c.min.ensures, c.requires.some, c.len.ensures.stored, left.spot.1),
      omega (arith, c.min.ensures),
      stops_alike c.min.result left c.meet.ensures.right.spot (c.is_same.ensures c.if-is_same.true)
          (omega (arith, c.min.ensures, c.len.ensures.stored, left.spot.1)),
    )

pub returns-clause-ahead : goal.returns-clause-ahead
returns-clause-ahead c = c.both_ahead.ensures c.args.x.now c.args.i c.args.y.now c.args.j
    (span_of c.meet.ensures.left.spot c.span-span.ensures.span) (span_of c.meet.ensures.right.spot c.span-next.ensures.span)

pub returns-clause-left_way : goal.returns-clause-left_way
returns-clause-left_way c = c.span-span.ensures.way c.args.x.now c.meet.ensures.left.spot c.meet.ensures.left.way

pub returns-clause-right_way : goal.returns-clause-right_way
returns-clause-right_way c = c.span-next.ensures.way c.args.y.now c.meet.ensures.right.spot c.meet.ensures.right.way
