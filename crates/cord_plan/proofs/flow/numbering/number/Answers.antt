use Rattle.cord_plan.proofs.Common.{ℕ, subst, sym, TakesNumber}
use Rattle.cord_plan.proofs.Numbers.{same_names}
use Rattle.cord_plan.proofs.flow.numbering.number.Goals as goal

pub returns-in_ok-narrowed-in-Some : goal.returns-in_ok-narrowed-in-Some
returns-in_ok-narrowed-in-Some c =
    let names = c.args.names.now.items in
    subst (λ (n : ℕ). TakesNumber c.args.name.now n names names) (sym c.in_ok-narrowed-in-Some.ensures)
    (record { grows = same_names names; is = rw c.deref.ensures.value at c.in-Some.ensures.some })

pub number_new-requires : goal.number_new-requires
number_new-requires c = rw c.deref.ensures.value at c.in-None.ensures.none
