use Rattle.cord_plan.proofs.Common.{List, ℕ, take, has, Marks, names_of, AreNumbers, Numbering}
use Rattle.cord_plan.proofs.flow.name_sets.mark_all.Given as goal

abbrev pub invariant-loop-number : goal.invariant-loop-number
invariant-loop-number l = (t : Numbering) (xs : List (List ℕ)) → AreNumbers (names_of t) xs l.numbers →
    Marks t l.group (λ x. has (take l.number-index xs) x) l.word
