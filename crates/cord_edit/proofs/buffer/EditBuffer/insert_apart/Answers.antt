use Rattle.std.proofs.Common.{◌≡◌, ◌∙◌, ◌+◌, ◌++◌, ℕ, List, ap, refl, sym, subst, arith}
use Rattle.cord_node.specs.PartsFrom.{Part}
use Rattle.cord_ec.specs.Gathered.{Growth, Gathered, leaf_parts}
use Rattle.cord_edit.specs.inner.Gaps.{gap_bytes}
use Rattle.cord_edit.proofs.Parting.{as_seen, more, steps, gap_begun, gap_kept, no_gap, unchanged_parts}
use Rattle.cord_edit.proofs.buffer.EditBuffer.insert_apart.Goals as goal

pub returns-in_err-flush-clause-gathered : goal.returns-in_err-flush-clause-gathered
returns-in_err-flush-clause-gathered c = λ k few. unchanged_parts (2 + k) _ _ _ (ap (λ (g : Growth). g.parts) c.self.view_is)
    (gap_kept (c.in_err-flush.ensures.cords_unchanged refl) (c.in_err-flush.ensures.gap_unchanged refl))

pub returns-then-bytes-le-MOST-clause-gathered : goal.returns-then-bytes-le-MOST-clause-gathered
returns-then-bytes-le-MOST-clause-gathered c = λ k few.
    let ps : List Part = c.flush.new.cords.parts in
    let b : List ℕ = c.args.bytes.now in
    let held : gap_bytes c.append.new.self ≡ b =
    c.append.ensures ∙ ap (λ (g : List ℕ). g ++ b) c.in_ok-flush.ensures.cleared.bytes in
    as_seen c.self.view_is (subst (λ (h : List ℕ). Gathered (2 + k) (c.self.inside.cords.parts ++ leaf_parts (gap_bytes c.self.inside.gap)) (ps ++ leaf_parts h))
    (sym held)
    (gap_begun k (c.self.inside.cords.parts ++ leaf_parts (gap_bytes c.self.inside.gap)) ps b (omega arith) c.in_ok-flush.ensures.spliced.gathered))

pub returns-clause-gathered : goal.returns-clause-gathered
returns-clause-gathered c = λ k few.
    let old : List Part = c.self.inside.cords.parts ++ leaf_parts (gap_bytes c.self.inside.gap) in
    as_seen c.self.view_is (no_gap (2 + k) old c.put_leaves.new.cords.parts (gap_bytes c.flush.new.gap) c.in_ok-flush.ensures.cleared.bytes
    (more (1 + (1 + k)) (2 + k) old c.put_leaves.new.cords.parts (omega arith)
    (steps 1 (1 + k) old c.flush.new.cords.parts c.put_leaves.new.cords.parts c.in_ok-flush.ensures.spliced.gathered
    (c.in_ok-put_leaves.ensures.gathered k few))))
