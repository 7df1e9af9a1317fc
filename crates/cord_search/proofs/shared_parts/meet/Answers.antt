use Rattle.cord_search.proofs.Lemmas.{side_at}
use Rattle.cord_search.proofs.shared_parts.meet.Goals as goal

pub loop-way-preserved-then-len : goal.loop-way-preserved-then-len
loop-way-preserved-then-len c =
    let before = c.loop-way.invariant.left in
    let step = c.in-Some.ensures in
    record {
      left = record {
        spot = side_at before.spot step.side.within step.side.spot;
        way = step.way c.args.x.now before.spot before.way;
        room = step.room;
      };
      right = c.loop-way.invariant.right;
    }

pub loop-way-preserved : goal.loop-way-preserved
loop-way-preserved c =
    let before = c.loop-way.invariant.right in
    let step = c.in-Some-step.ensures in
    record {
      left = c.loop-way.invariant.left;
      right = record {
        spot = side_at before.spot step.side.within step.side.spot;
        way = step.way c.args.y.now before.spot before.way;
        room = step.room;
      };
    }
