use Rattle.std.proofs.Common.{◌≡◌, ◌+◌, List, ℕ, length, ap, ◌∙◌, refl, arith}
use Rattle.std.specs.Prelude.{slice_range}
use Rattle.std.specs.Vec.{with_items}
use Rattle.std.proofs.lemmas.List.{with_items_is}
use borrow.Rule.Slice.PartMut.{put_mid}
use Rattle.cord_edit.specs.declared.gap.Gap.{Gap}
use Rattle.cord_edit.proofs.Lists.{range_longer}
use Rattle.cord_edit.proofs.gap.Gap.append.Goals as goal

pub returns : goal.returns
returns c =
    let g : Gap = c.args.self.now in
    let b : List ℕ = c.args.bytes.now in
    let written : (with_items g.room c.copy_to.new.all).items ≡ put_mid g.end (length b) g.room.items b =
    with_items_is g.room c.copy_to.new.all (c.copy_to.ensures.len ∙ c.deref_mut.ensures.len) ∙ c.copy_to.ensures.copied
    ∙ ap (λ (ys : List ℕ). put_mid g.end (length b) ys b) c.deref_mut.ensures.value in
    ap (λ (ys : List ℕ). slice_range ys g.start (g.end + length b)) written
    ∙ range_longer g.room.items b g.start g.end (length b) g.ordered (omega (arith, g.inside, g.sized)) refl
