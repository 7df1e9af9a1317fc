use Rattle.cord_plan.proofs.Common.{refl}
use Rattle.cord_plan.proofs.planner.expression_facts.Facts.of_byte.Goals as goal

pub returns-in-Numeral : goal.returns-in-Numeral
returns-in-Numeral c = λ s b. rw c.in-Numeral.is (record { counted = refl; read = λ x h. let bad : ⊥ = cc in absurd bad })
