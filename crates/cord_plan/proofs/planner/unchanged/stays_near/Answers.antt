use Rattle.std.specs.Prelude.{◌≡◌, ◌+◌, ◌-◌, ◌<◌, ◌&&◌}
use Rattle.cord_plan.proofs.Common.{true, ℕ, Bool, List, Option, length, Some, sym, ap, ◌∙◌, arith, slice_get, Statement, names, each_from}
use Rattle.cord_plan.proofs.Common.{preserves, slice_get_within, entry_at, is_before, stay}
use Rattle.cord_plan.specs.declared.planner.operand_choices.Line.{Line}
use Rattle.cord_plan.specs.inner.Choices.{IsSimpleLine}
use Rattle.cord_plan.proofs.ExpressionFacts.{target_kept}
use Rattle.cord_plan.proofs.Nearest.{keep_here}
use Rattle.cord_plan.proofs.Numbers.{IsLineAt, line_there}
use Rattle.cord_plan.proofs.planner.unchanged.stays_near.Goals as goal

-- the line at a place before a line
there : (line : Line) → IsSimpleLine line → (p : ℕ) → p < line.place →
    (l : Statement) × (slice_get line.statements.now p ≡ Some l) × IsLineAt line.recent.now.later.now.numbering l p
there line simple p lt =
    let within : line.place < length line.statements.now = slice_get_within line.statements.now line.place line.statement.now simple.here in
    line_there line.recent.now.later.now.numbering line.statements.now simple.recent.numbered p (omega (arith, lt, within))

pub line-target-requires : goal.line-target-requires
line-target-requires c =
    let found = there c.args.line.now c.requires c.loop-p.p c.loop-p-test.true in
    (found.0, found.2)

pub loop-p-preserved : goal.loop-p-preserved
loop-p-preserved c = λ e facts.
    let line = c.args.line.now in
    let recent = line.recent.now in
    let p = c.loop-p.p in
    let found = there line c.requires p c.loop-p-test.true in
    let target = c.line-target.result.target in
    let early : is_before (entry_at recent.read.items target) c.args.facts.since ≡ true =
    ap (λ (places : List (Option ℕ)). is_before (entry_at places target) c.args.facts.since) (sym c.deref.ensures.value)
    ∙ (ap (λ (o : Option ℕ). is_before o c.args.facts.since) (sym c.entry_at.ensures) ∙ (sym c.is_before.ensures ∙ c.if-not-is_before.false)) in
    let kept : preserves (Some found.0) (names e) ≡ true =
    target_kept line.statements.now recent.later.now.numbering recent.read.items line.place found.0 target e c.args.facts
    (c.line-target.ensures found.0 found.2).target c.requires.recent.read early facts in
    c.loop-p.invariant e facts
    ∙ (keep_here line.statements.now (names e) p line.place found.0 c.loop-p-test.true found.1
    ∙ ap (λ (v : Bool). v && stay line.statements.now (p + 1) line.place (names e)) kept)

pub returns : goal.returns
returns c = λ e facts done.
    let none : c.args.line.now.place - c.loop-p.p ≡ 0 = omega arith in
    c.loop-p.invariant e facts
    ∙ ap (λ (n : ℕ). each_from (λ m. preserves (slice_get c.args.line.now.statements.now m) (names e)) n c.loop-p.p) none
