use Rattle.std.specs.Prelude.{◌<◌}
use Rattle.cord_plan.proofs.Common.{length, subst, arith, Option, ℕ, IsNumberIn}
use Rattle.cord_plan.proofs.Recents.{number_within, puts_none, puts_one}
use Rattle.cord_plan.proofs.flow.recent.put.Goals as goal

pub returns-in-None : goal.returns-in-None
returns-in-None c = λ t o is size. puts_none t c.args.entry c.args.places.now o
    (subst (λ (number : Option ℕ). IsNumberIn t o number) c.in-None.is is)

pub returns-then-number-places : goal.returns-then-number-places
returns-then-number-places c = λ t o is size. puts_one t c.args.entry c.args.places.now o c.in-Some.number
    (subst (λ (number : Option ℕ). IsNumberIn t o number) c.in-Some.is is) c.if-number-places.true

pub returns-else-number-places : goal.returns-else-number-places
returns-else-number-places c = λ t o is size.
    let lt : c.in-Some.number < length c.args.places.now = number_within t c.args.entry c.args.places.now o c.in-Some.number
    (subst (λ (number : Option ℕ). IsNumberIn t o number) c.in-Some.is is) size in
    absurd (omega (arith, lt, c.if-number-places.false))
