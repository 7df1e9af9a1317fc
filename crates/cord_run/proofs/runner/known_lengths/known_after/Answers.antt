use Rattle.cord_run.proofs.Common.{List, Some, ap, refl, subst, ◌∙◌, map, min, slice_get, made_view, members_view, operation_view}
use Rattle.cord_run.proofs.Common.{◌≡◌, ◌+◌, ◌-◌, ◌^◌}
use Rattle.cord_plan.specs.declared.operations.Operation.{Operation}
use Rattle.cord_run.proofs.Known.{next_known}
use Rattle.cord_run.proofs.Operations.{here_at}
use Rattle.cord_run.proofs.runner.known_lengths.known_after.Goals as goal

pub returns : goal.returns
returns c =
    let entries = c.args.store.now.entries.items in
    let after = c.in_ok-get.field-0.now in
    let lookup = c.in_ok-get.ensures.lookup in
    let next = c.args.place + 1 in
    let there : slice_get (map operation_view c.args.plan.now) next ≡ Some (operation_view after) =
    subst (λ (os : List Operation). slice_get (map operation_view os) next ≡ Some (operation_view after)) c.operations.ensures.listed
    (here_at c.operations.result.now next after lookup.3.0 lookup.1) in
    next_known entries (map operation_view c.args.plan.now) c.args.place next c.saturating_add.result
    (operation_view c.args.operation.now) (operation_view after) c.in-Measure.line c.in-Measure.target (made_view c.in-Measure.made)
    (members_view c.in_ok-members.members.now) c.in_ok-name.name.now refl (c.if-not-extends.ensures refl) c.requires.here there
    (ap operation_view c.in-Measure.is) c.requires.stays c.in_ok-members.ensures c.in_ok-name.ensures
    (c.saturating_add.ensures ∙ (λ i. min (c.length_of-len.ensures i + c.length_of.ensures i) (2 ^ 64 - 1)))
