use Rattle.std.specs.Prelude.{◌≡◌}
use Rattle.cord_plan.proofs.Common.{Bool, true, List, Some, length, map, refl, sym, ap, ◌∙◌, subst, slice_get, slice_get_read, Extends}
use Rattle.cord_plan.proofs.Common.{operation_view}
use Rattle.cord_plan.specs.declared.operations.Operation.{Operation}
use Rattle.cord_plan.proofs.plans.Plan.extends.Goals as goal

pub returns-in-Some : goal.returns-in-Some
returns-in-Some c = λ is.
    let place = c.args.place in
    let flags = c.deref.result.now in
    let lookup = c.in-Some.ensures.lookup in
    let found : slice_get flags place ≡ Some c.in-Some.reported.now =
    slice_get_read flags (length flags) place c.in-Some.reported.now refl lookup.3.0 lookup.1 in
    let reported : slice_get c.self.inside.extending.items place ≡ Some true =
    ap (λ (items : List Bool). slice_get items place) (sym c.deref.ensures.value) ∙ (found ∙ ap Some is) in
    subst (λ (os : List Operation). Extends (map operation_view os) place) c.self.view_is (c.self.invariant.extending place reported)
