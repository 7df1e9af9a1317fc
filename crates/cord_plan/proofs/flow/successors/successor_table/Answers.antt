use Rattle.std.specs.Prelude.{◌<◌, ◌≡◌}
use Rattle.cord_plan.proofs.Common.{map, ap, ◌∙◌, sym, reverse, length, arith, length-append, length-map, shape_view, successors}
use Rattle.cord_plan.specs.declared.flow.successors.Shape.TheVariants.{Straight}
use Rattle.cord_plan.proofs.Followers.{open_more, reported_more, all_after}
use Rattle.cord_plan.proofs.flow.successors.successor_table.Goals as goal

pub loop-p-preserved : goal.loop-p-preserved
loop-p-preserved c = record {
  opened = open_more c.args.shapes.now c.loop-p.p Straight (reverse c.loop-p.blocks.items)
      (reverse c.open_or_close.new.blocks.items) c.loop-p-test.true c.loop-p.invariant.opened c.in_ok-open_or_close.ensures;
  size = omega (arith, c.loop-p.invariant.size, simp length-append at (ap length c.push_reserved.ensures.items));
  room = omega (arith, c.loop-p-test.true, c.loop-p.invariant.room, c.push_reserved.ensures.len, c.push_reserved.ensures.capacity);
  reported = reported_more c.loop-p.found.items c.push_reserved.new.self.items c.successors_at.result
      (successors (map shape_view c.args.shapes.now)) c.loop-p.p
      c.loop-p.invariant.size c.push_reserved.ensures.items c.loop-p.invariant.reported c.successors_at.ensures;
}

pub returns : goal.returns
returns c =
    let end : c.loop-p.p ≡ length c.args.shapes.now = omega arith in
    all_after c.loop-p.found.items (map shape_view c.args.shapes.now)
    (c.loop-p.invariant.size ∙ end ∙ sym (length-map c.args.shapes.now shape_view))
    (λ k lt. c.loop-p.invariant.reported k (let lt2 : k < length c.args.shapes.now = simp length-map at lt in omega arith))
