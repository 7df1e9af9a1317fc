use Rattle.std.proofs.Common.{◌∙◌, ◌+◌, ◌-◌, ◌≤◌, ◌++◌, ◌^◌, ℕ, List, [], length, take, ap, refl, sym, subst, arith}
use Rattle.std.proofs.lemmas.List.{length-take}
use Rattle.cord_raw.specs.declared.buffer.TheConstants.RawBuf.{CAP}
use Rattle.cord_node.specs.PartsFrom.{Part}
use Rattle.cord_ec.specs.Gathered.{Growth, Gathered, leaf_parts}
use Rattle.cord_edit.specs.inner.Gaps.{gap_bytes}
use Rattle.cord_edit.proofs.Steps.{removed_next, removed_apart}
use Rattle.cord_edit.proofs.Editing.{edited_by}
use Rattle.cord_edit.proofs.Parting.{as_seen, gap_kept, tail_cut, unchanged_parts}
use Rattle.cord_edit.proofs.buffer.EditBuffer.remove.Goals as goal

pub returns-then-end-until-clause-text : goal.returns-then-end-until-clause-text
returns-then-end-until-clause-text c = removed_next c.self.inside.cords.text c.args.self.now.text (gap_bytes c.self.inside.gap)
    c.self.inside.cut_start c.self.inside.cut_end (length c.self.inside.cords.text) c.len-len.result (ap (λ (g : Growth). g.text) c.self.view_is)
    refl c.self.invariant.0 c.self.invariant.1 c.len-len.ensures.value (gap_bytes c.truncate.new.self)
    c.min-self-inside.result c.saturating_sub.result c.min-from.result c.min-until.result (c.self.inside.cut_start + c.len.result) c.args.start
    c.args.count c.saturating_add.result (2 ^ 64 - 1) c.min-self-inside.ensures c.saturating_sub.ensures c.truncate.ensures
    (ap (λ (n : ℕ). c.self.inside.cut_start + n) c.len.ensures.value) c.if-from-end.true c.if-end-until.true
    (omega (arith, c.len-len.ensures.limit)) c.min-from.ensures c.saturating_add.ensures c.min-until.ensures

pub returns-then-end-until-clause-over : goal.returns-then-end-until-clause-over
returns-then-end-until-clause-over c = edited_by c.args.start c.args.count [] c.args.self.now.text _ (returns-then-end-until-clause-text c)

pub returns-then-end-until-clause-gathered : goal.returns-then-end-until-clause-gathered
returns-then-end-until-clause-gathered c =
    let ps : List Part = c.self.inside.cords.parts in
    let g : List ℕ = gap_bytes c.self.inside.gap in
    let n : ℕ = c.saturating_sub.result in
    let fits : length (take n g) ≤ CAP = omega (arith, length-take n g, c.len.ensures.value, c.len.ensures.limit) in
    as_seen c.self.view_is (subst (λ (h : List ℕ). Gathered 1 (ps ++ leaf_parts g) (ps ++ leaf_parts h)) (sym c.truncate.ensures) (tail_cut ps g n fits))

pub returns-in_err-flush-clause-gathered : goal.returns-in_err-flush-clause-gathered
returns-in_err-flush-clause-gathered c = unchanged_parts 1 _ _ _ (ap (λ (g : Growth). g.parts) c.self.view_is)
    (gap_kept (c.in_err-flush.ensures.cords_unchanged refl) (c.in_err-flush.ensures.gap_unchanged refl))

pub returns-clause-text : goal.returns-clause-text
returns-clause-text c = removed_apart c.flush.new.cords.text c.args.self.now.text (gap_bytes c.flush.new.gap) c.len-len.result
    c.min-from.result c.min-until.result c.args.start c.args.count c.saturating_add.result (2 ^ 64 - 1)
    (c.in_ok-flush.ensures.spliced.text ∙ ap (λ (g : Growth). g.text) c.self.view_is) c.in_ok-flush.ensures.cleared.bytes c.len-len.ensures.value
    (omega (arith, c.len-len.ensures.limit)) c.min-from.ensures c.saturating_add.ensures c.min-until.ensures

pub returns-clause-over : goal.returns-clause-over
returns-clause-over c = edited_by c.args.start c.args.count [] c.args.self.now.text _ (returns-clause-text c)
