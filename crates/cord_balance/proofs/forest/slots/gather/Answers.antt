use Rattle.cord_balance.proofs.States.{IsPutLeft}
use Rattle.cord_balance.proofs.Gathering.{gathering_start, gathering_step, gathering_shallow, gathering_fits}
use Rattle.cord_balance.proofs.forest.slots.gather.Goals as goal

pub loop-piece-init : goal.loop-piece-init
loop-piece-init c = gathering_start c.args.forest.now.items c.args.below c.requires.forest

pub put_left-requires-clause-right_shallow : goal.put_left-requires-clause-right_shallow
put_left-requires-clause-right_shallow c = gathering_shallow c.args.forest.now.items c.pop_below.new.forest.items c.in-Some.piece
    c.loop-piece.joined c.args.below (rw (← c.in-Some.ensures.taken) c.loop-piece.invariant)

pub put_left-requires-clause-within_limit : goal.put_left-requires-clause-within_limit
put_left-requires-clause-within_limit c = gathering_fits c.args.forest.now.items c.pop_below.new.forest.items c.in-Some.piece
    c.loop-piece.joined c.args.below (rw (← c.in-Some.ensures.taken) c.loop-piece.invariant) c.requires.within_limit

pub loop-piece-preserved : goal.loop-piece-preserved
loop-piece-preserved c =
    let u : IsPutLeft c.in-Some.piece.node c.loop-piece.joined c.in_ok-put_left.field-0 =
    record {
      sound = c.in_ok-put_left.ensures.sound;
      text = c.in_ok-put_left.ensures.text;
      len = c.in_ok-put_left.ensures.len;
      parts_from = c.in_ok-put_left.ensures.parts_from;
      shallow = c.in_ok-put_left.ensures.shallow;
      alone = c.in_ok-put_left.ensures.alone;
      depth =
          c.in_ok-put_left.ensures.depth;
    } in
    gathering_step c.args.forest.now.items c.pop_below.new.forest.items c.in-Some.piece c.loop-piece.joined c.in_ok-put_left.field-0
    c.args.below (rw (← c.in-Some.ensures.taken) c.loop-piece.invariant) c.in-Some.ensures.below u
