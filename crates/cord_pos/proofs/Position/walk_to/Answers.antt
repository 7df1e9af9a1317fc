use Rattle.cord_pos.proofs.Common.{arith, text_len, ◌+◌, ◌<◌, ◌∙◌}
use Rattle.cord_pos.proofs.Lemmas.{index_inside, walk_first, walk_next}
use Rattle.cord_pos.proofs.Position.walk_to.Goals as goal

pub loop-step-init : goal.loop-step-init
loop-step-init c =
    let k : 0 < text_len c.args.cord.now = omega arith in
    let e = c.set-position.ensures in
    record {
      sound = e.sound;
      cord = e.cord;
      index = e.index ∙ index_inside c.args.cord.now 0 k;
      visits = e.visits ∙ walk_first c.args.cord.now e.sound k;
    }

pub loop-step-preserved : goal.loop-step-preserved
loop-step-preserved c =
    let k : c.loop-step._step + 1 < text_len c.args.cord.now = omega arith in
    let i = c.loop-step.invariant in
    let index = rw (i.cord, i.index) at c.next.ensures.index in
    let visits = rw (i.cord, i.index) at c.next.ensures.visits in
    record {
      sound = i.sound;
      cord = c.next.ensures.cord ∙ i.cord;
      index = index ∙ index_inside c.args.cord.now (c.loop-step._step + 1) k;
      visits = visits ∙ walk_next c.args.cord.now c.loop-step._step c.loop-step.position.visits i.sound k i.visits;
    }
