use Rattle.cord_pos.proofs.Common.{List, Place, [], ap, append_assoc, arith, below, node_of, places, sym, ◌++◌, ◌∙◌, ◌≡◌}
use Rattle.cord_pos.proofs.Lemmas.{IsSide, ends_at_part, is_side}
use Rattle.std.proofs.lemmas.Grind.{common_steps}
use Rattle.cord_pos.proofs.path.Path.descend.Goals as goal

pub loop-side-preserved : goal.loop-side-preserved
loop-side-preserved c =
    let i = c.loop-side.invariant in
    let n = node_of c.loop-side.node in
    let m = node_of c.in-Some.side.node in
    let o = c.in-Some.side.offset in
    let s : IsSide n c.loop-side.index m o = is_side n c.loop-side.index m o i.sound i.inside c.in-Some.ensures.side in
    record {
      sound = s.sound;
      inside = s.inside;
      fits = omega (arith, s.to, i.fits);
      room = omega (arith, s.depth, i.room, c.keep.ensures.len);
      places = rw (c.keep.ensures.places, append_assoc) (ap (λ (ps : List Place). places c.loop-side.self.stops.items ++ ps)
          (sym (s.below c.loop-side.start)) ∙ i.places);
      counted = omega (arith, c.in-Some.ensures.count, c.keep.ensures.visits);
      visits = omega (arith, i.visits, s.level, c.in-Some.ensures.count, c.keep.ensures.visits);
      part = sym (s.part c.loop-side.start) ∙ i.part;
    }

pub returns : goal.returns
returns c =
    let i = c.loop-side.invariant in
    let n = node_of c.loop-side.node in
    let part = ends_at_part n c.loop-side.index c.in_default.ensures.side in
    let none : below n c.loop-side.start c.loop-side.index ≡ [] = part.below c.loop-side.start c.loop-side.index in
    record {
      places = grind (arith, common_steps);
      visits = omega (arith, i.visits, i.counted, part.level c.loop-side.index, c.in_default.ensures.count);
      part = sym (part.part c.loop-side.start c.loop-side.index) ∙ i.part;
      end = grind (arith, common_steps);
    }
