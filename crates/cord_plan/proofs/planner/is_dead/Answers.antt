use Rattle.std.specs.Prelude.{◌≡◌}
use Rattle.cord_plan.proofs.Common.{ℕ, Bool, List, Option, Some, None, refl, sym, ap, subst, ◌∙◌, not, reports, IsNumberIn, number_of}
use Rattle.cord_plan.proofs.Common.{target_of, Later}
use Rattle.cord_plan.specs.Planned as plan
use Rattle.cord_plan.proofs.Numbers.{number_reported, unnamed}
use Rattle.cord_plan.proofs.planner.is_dead.Goals as goal

-- a name that has a number is dead where it isn't read later
by_number : (t : Later) (place n : ℕ) (later : Bool) (o : Option (List ℕ)) → IsNumberIn t.numbering o (Some n) →
    ((x : List ℕ) → o ≡ Some x → Some n ≡ number_of t.numbering x → later ≡ reports t x place) → not later ≡ plan.is_dead (reports t) place o
by_number t place n later None numbered reported = let bad : ⊥ = cc in absurd bad
by_number t place n later (Some x) numbered reported = ap not (reported x refl (number_reported t.numbering (Some x) (Some n) numbered))

pub returns-in-None : goal.returns-in-None
returns-in-None c = λ l numbered reported.
    sym (ap (plan.is_dead (reports c.args.later.now) c.args.place)
    (unnamed c.args.later.now.numbering (target_of l)
    (subst (λ (n : Option ℕ). IsNumberIn c.args.later.now.numbering (target_of l) n) c.in-None.is numbered)))

pub returns-in-Some : goal.returns-in-Some
returns-in-Some c = λ l numbered reported.
    by_number c.args.later.now c.args.place c.in-Some.field-0 c.is_target_later.result (target_of l)
    (subst (λ (n : Option ℕ). IsNumberIn c.args.later.now.numbering (target_of l) n) c.in-Some.is numbered)
    (λ x target number. c.is_target_later.ensures l x target reported (c.in-Some.is ∙ number))
