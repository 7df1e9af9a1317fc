use Rattle.std.proofs.Common.{◌≤◌, ◌∙◌, ℕ, List, ◌++◌, length, length-append, ap, subst, sym, arith}
use Rattle.arrayvec.specs.ArrayVec.{ArrayVec}
use Rattle.cord_node.specs.PartsFrom.{Part}
use Rattle.cord_ec.specs.Gathered.{Growth, Gathered, leaf_bytes, leaf_parts}
use Rattle.cord_printf.specs.Own.{IsPrintedFrom}
use Rattle.cord_printf.specs.inner.PieceLayouts.{parts_in}
use Rattle.cord_printf.proofs.Owned.{grown_from, tail_from, went_well, went_wrong, when_ok}
use Rattle.cord_printf.proofs.output.Output.add_bytes.Goals as goal

pub returns-then-is_ok-clause-made : goal.returns-then-is_ok-clause-made
returns-then-is_ok-clause-made c = λ k few.
    let ps : List Part = parts_in c.self.inside.grown in
    let g : List ℕ = c.self.inside.gathered.items in
    let both = went_well c.try_extend_from_slice.result _ _ (sym c.is_ok.ensures.value ∙ c.if-is_ok.true) c.try_extend_from_slice.ensures.ok
    c.try_extend_from_slice.ensures.variant in
    let short : length (g ++ c.args.bytes.now) ≤ 256 = omega (arith, length-append g c.args.bytes.now, both.1) in
    subst (λ (old : List Part). IsPrintedFrom k old (ps ++ leaf_parts c.try_extend_from_slice.new.self.items))
    (ap (λ (x : Growth). x.parts) c.self.view_is)
    (subst (λ (b : List ℕ). IsPrintedFrom k (ps ++ leaf_parts g) (ps ++ leaf_parts b)) (sym both.0)
    (tail_from ps g c.args.bytes.now k short few))

pub returns-clause-made : goal.returns-clause-made
returns-clause-made c =
    let before : List Part = parts_in c.self.inside.grown ++ leaf_parts c.self.inside.gathered.items in
    let new : List Part = parts_in c.grow.new.grown in
    let middle : List Part = parts_in c.put_in.new.grown in
    let same = went_wrong c.try_extend_from_slice.result _ (sym c.is_ok.ensures.value ∙ c.if-is_ok.false)
    c.try_extend_from_slice.ensures.err in
    let put : IsPrintedFrom 0 before middle =
    subst (λ (b : List ℕ). IsPrintedFrom 0 (parts_in c.self.inside.grown ++ leaf_parts b) middle)
    (ap (λ (g : ArrayVec ℕ). g.items) same) c.in_ok-put_in.ensures.made in
    let gathers : Type 0 = (k : ℕ) → length c.args.bytes.now ≤ leaf_bytes k → Gathered k middle new in
    let makes : Type 0 =
    (k : ℕ) → length c.args.bytes.now ≤ leaf_bytes k → IsPrintedFrom k c.args.self.now.parts
    (new ++ leaf_parts c.put_in.new.gathered.items) in
    let made : gathers → makes = λ g k few.
    subst (λ (old : List Part). IsPrintedFrom k old (new ++ leaf_parts c.put_in.new.gathered.items))
    (ap (λ (x : Growth). x.parts) c.self.view_is)
    (subst (λ (b : List ℕ). IsPrintedFrom k before (new ++ leaf_parts b)) (sym c.in_ok-put_in.ensures.emptied)
    (grown_from before middle new c.args.bytes.now put g k few)) in
    when_ok gathers makes c.grow.result made c.grow.ensures.gathered
