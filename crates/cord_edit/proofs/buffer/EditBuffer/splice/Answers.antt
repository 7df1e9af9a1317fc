use Rattle.std.proofs.Common.{◌∙◌, ◌+◌, ◌-◌, ◌++◌, ◌^◌, ℕ, List, length, take, drop, ap, refl, sym, subst, arith, rules}
use Rattle.cord_node.specs.Tree.{Cell}
use Rattle.cord_node.specs.PartsFrom.{Part}
use Rattle.cord_core.specs.Cord.{text, parts_of}
use Rattle.cord_ec.specs.Gathered.{Growth, Gathered, leaf_parts}
use Rattle.cord_edit.specs.inner.Gaps.{gap_bytes}
use Rattle.cord_core.proofs.Splices.{clamped_text}
use Rattle.cord_edit.proofs.Lists.{around_nothing}
use Rattle.cord_edit.proofs.Editing.{edited_by_cord}
use Rattle.cord_edit.proofs.Parting.{as_seen_with, gap_kept, no_gap, not_yet, spliced_after, untouched}
use Rattle.cord_edit.proofs.buffer.EditBuffer.splice.Goals as goal

pub returns-then-from-len-gt-MAX_LEN-clause-gathered : goal.returns-then-from-len-gt-MAX_LEN-clause-gathered
returns-then-from-len-gt-MAX_LEN-clause-gathered c = untouched 2 c.args.self.now.parts (parts_of c.args.middle.now)

pub returns-in_err-end-clause-gathered : goal.returns-in_err-end-clause-gathered
returns-in_err-end-clause-gathered c =
    subst (λ (ps : List Part). Gathered 2 (c.args.self.now.parts ++ parts_of c.args.middle.now) ps)
    (sym (gap_kept (c.in_err-end.ensures.cords_unchanged refl) (c.in_err-end.ensures.gap_unchanged refl) ∙ ap (λ (g : Growth). g.parts) c.self.view_is))
    (untouched 2 c.args.self.now.parts (parts_of c.args.middle.now))

pub splice-requires : goal.splice-requires
splice-requires c = omega (
  arith,
  c.min-until.ensures,
  c.len-len.ensures.value,
  ap length (c.in_ok-end.ensures.spliced.text ∙ ap (λ (e : Growth). e.text) c.self.view_is),
)

pub returns-in_err-splice-clause-gathered : goal.returns-in_err-splice-clause-gathered
returns-in_err-splice-clause-gathered c =
    let m : List Part = parts_of c.args.middle.now in
    let g : List ℕ = gap_bytes c.flush.new.gap in
    subst (λ (n : Growth). Gathered 2 (c.args.self.now.parts ++ m) (n.parts ++ leaf_parts g))
    (sym (c.in_err-splice.ensures.unchanged refl))
    (as_seen_with m c.self.view_is (not_yet _ c.flush.new.cords.parts m g c.in_ok-end.ensures.cleared.bytes c.in_ok-end.ensures.spliced.gathered))

pub returns-clause-text : goal.returns-clause-text
returns-clause-text c = around_nothing c.splice.new.self.text (gap_bytes c.flush.new.gap) (c.min-from.result + c.len-2.result)
    c.in_ok-end.ensures.cleared.bytes
    ∙ clamped_text c.args.self.now.text (text c.args.middle.now) c.splice.new.self.text c.args.start (c.args.start + c.args.count)
    (2 ^ 64 - 1) c.len-len.result c.min-from.result c.saturating_add.result c.min-until.result (sym c.len-len.ensures.value)
    (omega (arith, c.len-len.ensures.limit)) c.min-from.ensures c.saturating_add.ensures c.min-until.ensures
    (c.in_ok-splice.ensures.spliced.text
    ∙ ap (λ (xs : List Cell). take c.min-from.result xs ++ text c.args.middle.now ++ drop c.min-until.result xs)
    (c.in_ok-end.ensures.spliced.text ∙ ap (λ (e : Growth). e.text) c.self.view_is))

pub returns-clause-over : goal.returns-clause-over
returns-clause-over c = edited_by_cord c.args.start c.args.count c.args.middle.now c.args.self.now.text _ (returns-clause-text c)

pub returns-clause-gathered : goal.returns-clause-gathered
returns-clause-gathered c =
    let m : List Part = parts_of c.args.middle.now in
    let g : List ℕ = gap_bytes c.flush.new.gap in
    as_seen_with m c.self.view_is (no_gap 2 _ c.splice.new.self.parts g c.in_ok-end.ensures.cleared.bytes
    (spliced_after _ c.flush.new.cords.parts m c.splice.new.self.parts c.in_ok-end.ensures.spliced.gathered c.in_ok-splice.ensures.spliced.gathered))

pub invariant_of-self-2 : goal.invariant_of-self-2
invariant_of-self-2 c = search rules
