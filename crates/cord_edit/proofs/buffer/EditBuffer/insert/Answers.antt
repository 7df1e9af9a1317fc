use Rattle.std.proofs.Common.{◌∙◌, ◌+◌, ◌≤◌, ◌++◌, ℕ, List, length, length-append, map, ap, refl, sym, subst, arith}
use Rattle.cord_raw.specs.declared.buffer.TheConstants.RawBuf.{CAP}
use Rattle.cord_node.specs.Tree.{known}
use Rattle.cord_node.specs.PartsFrom.{Part}
use Rattle.cord_ec.specs.Gathered.{Growth, Gathered, leaf_parts}
use Rattle.cord_edit.specs.inner.Gaps.{gap_bytes}
use Rattle.cord_ec.proofs.Leaves.{tail_grown}
use Rattle.cord_edit.proofs.Lists.{insert_clamped}
use Rattle.cord_edit.proofs.Steps.{typed_after, typed_before}
use Rattle.cord_edit.proofs.Editing.{edited_by}
use Rattle.cord_edit.proofs.Parting.{as_before, as_seen, more, prefix_grown}
use Rattle.cord_edit.proofs.buffer.EditBuffer.insert.Goals as goal

pub returns-then-bytes-len-clause-gathered : goal.returns-then-bytes-len-clause-gathered
returns-then-bytes-len-clause-gathered c = λ k few. as_before (2 + k) c.args.self.now.parts

pub returns-then-fits_after-clause-text : goal.returns-then-fits_after-clause-text
returns-then-fits_after-clause-text c = typed_after c.self.inside.cords.text c.args.self.now.text (gap_bytes c.self.inside.gap)
    c.self.inside.cut_start c.self.inside.cut_end (length c.self.inside.cords.text) c.len-len.result (ap (λ (g : Growth). g.text) c.self.view_is)
    refl c.self.invariant.0 c.self.invariant.1 c.len-len.ensures.value c.args.bytes.now (gap_bytes c.append.new.self)
    c.min-at.result c.args.at c.append.ensures c.min-at.ensures (omega (arith, c.if-at-self.true, c.len.ensures.value))

pub returns-then-fits_after-clause-over : goal.returns-then-fits_after-clause-over
returns-then-fits_after-clause-over c = edited_by c.args.at 0 c.args.bytes.now c.args.self.now.text _
    (returns-then-fits_after-clause-text c)

pub returns-then-fits_after-clause-gathered : goal.returns-then-fits_after-clause-gathered
returns-then-fits_after-clause-gathered c = λ k few.
    let ps : List Part = c.self.inside.cords.parts in
    let g : List ℕ = gap_bytes c.self.inside.gap in
    let b : List ℕ = c.args.bytes.now in
    let fits : length (g ++ b) ≤ CAP = omega (arith, length-append g b, c.fits_after.ensures.most c.if-fits_after.true) in
    as_seen c.self.view_is (subst (λ (h : List ℕ). Gathered (2 + k) (ps ++ leaf_parts g) (ps ++ leaf_parts h)) (sym c.append.ensures)
    (more k (2 + k) (ps ++ leaf_parts g) (ps ++ leaf_parts (g ++ b)) (omega arith) (tail_grown ps g b k fits few)))

pub returns-then-fits_before-clause-text : goal.returns-then-fits_before-clause-text
returns-then-fits_before-clause-text c = typed_before c.self.inside.cords.text c.args.self.now.text (gap_bytes c.self.inside.gap)
    c.self.inside.cut_start c.self.inside.cut_end (length c.self.inside.cords.text) c.len-len.result (ap (λ (g : Growth). g.text) c.self.view_is)
    refl c.self.invariant.0 c.self.invariant.1 c.len-len.ensures.value c.args.bytes.now (gap_bytes c.prepend.new.self)
    c.min-at.result c.args.at c.prepend.ensures c.min-at.ensures (omega arith)

pub returns-then-fits_before-clause-over : goal.returns-then-fits_before-clause-over
returns-then-fits_before-clause-over c = edited_by c.args.at 0 c.args.bytes.now c.args.self.now.text _
    (returns-then-fits_before-clause-text c)

pub returns-then-fits_before-clause-gathered : goal.returns-then-fits_before-clause-gathered
returns-then-fits_before-clause-gathered c = λ k few.
    let ps : List Part = c.self.inside.cords.parts in
    let g : List ℕ = gap_bytes c.self.inside.gap in
    let b : List ℕ = c.args.bytes.now in
    let fits : length (b ++ g) ≤ CAP = omega (arith, length-append b g, c.fits_before.ensures.most c.if-fits_before.true) in
    as_seen c.self.view_is (subst (λ (h : List ℕ). Gathered (2 + k) (ps ++ leaf_parts g) (ps ++ leaf_parts h)) (sym c.prepend.ensures)
    (more k (2 + k) (ps ++ leaf_parts g) (ps ++ leaf_parts (b ++ g)) (omega arith) (prefix_grown ps g b k fits few)))

pub returns-clause-text : goal.returns-clause-text
returns-clause-text c = c.in_ok-insert_apart.ensures.text
    ∙ insert_clamped c.args.self.now.text (map known c.args.bytes.now) c.args.at c.min-at.result c.len-len.result
    (sym c.len-len.ensures.value) c.min-at.ensures

pub returns-clause-over : goal.returns-clause-over
returns-clause-over c = edited_by c.args.at 0 c.args.bytes.now c.args.self.now.text _ (returns-clause-text c)
