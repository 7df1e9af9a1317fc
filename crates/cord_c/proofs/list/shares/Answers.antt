use Rattle.std.proofs.Common.{◌<◌, ◌∙◌, length, refl, arith}
use Rattle.std.proofs.Math.Seq.{map-set_same}
use Rattle.cord_c.proofs.Lists.{one_more}
use Rattle.cord_c.proofs.list.shares.Goals as goal

pub returns-in_err-read_onto-clause-same : goal.returns-in_err-read_onto-clause-same
returns-in_err-read_onto-clause-same c = map-set_same (λ h. h.text) c.loop-place.parts c.loop-place.place c.read_onto.new.self
    c.index-parts-place.result c.read_onto.ensures.same ∙ c.loop-place.invariant.same

pub loop-place-preserved : goal.loop-place-preserved
loop-place-preserved c =
    let inside : c.loop-place.place < length c.loop-place.parts = omega arith in
    record {
      made = c.in_ok-read_onto.ensures.made ∙ one_more (λ h. h.text) c.loop-place.parts _ c.loop-place.made.items c.loop-place.place
          c.index-parts-place.result _ inside c.loop-place.invariant.same refl c.loop-place.invariant.made;
      same = map-set_same (λ h. h.text) c.loop-place.parts c.loop-place.place c.read_onto.new.self c.index-parts-place.result
          c.read_onto.ensures.same ∙ c.loop-place.invariant.same;
    }
