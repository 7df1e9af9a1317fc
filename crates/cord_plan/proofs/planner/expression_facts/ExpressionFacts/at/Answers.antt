use Rattle.std.specs.Prelude.{◌≡◌}
use Rattle.cord_plan.proofs.Common.{Some, length, refl, ap, ◌∙◌, slice_get, slice_get_read, expression_in}
use Rattle.cord_plan.proofs.ExpressionFacts.{facts_are}
use Rattle.cord_plan.proofs.planner.expression_facts.ExpressionFacts.at.Goals as goal

pub returns-in-Some-Some : goal.returns-in-Some-Some
returns-in-Some-Some c = λ s b table e known there.
    let entry = c.in-Some-Some.entry in
    let slot = c.in-Some-Some.field-0.now in
    let entries = c.deref.result.now in
    let lookup = c.in-Some-Some.ensures.lookup in
    let read : slice_get entries c.in_ok-number.field-0 ≡ Some slot = slice_get_read entries (length entries) c.in_ok-number.field-0 slot refl lookup.3.0
    lookup.1 in
    let found : slice_get c.args.self.now.entries.items c.in_ok-number.field-0 ≡ Some (Some entry) =
    rw (← c.deref.ensures.value, ← c.in-Some-Some.field-0-is) read in
    facts_are s b (expression_in table entry.place) e entry.facts (known c.in_ok-number.field-0 entry found)
    (ap (expression_in table) c.if-entry-place.true ∙ there)
