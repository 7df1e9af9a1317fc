use Rattle.cord_plan.proofs.Common.{List, ℕ, Some, take, has, names_of, AreNumbers, AreFor, PutsPlaces, Numbering}
use Rattle.cord_plan.proofs.flow.recent.note_all.Given as goal

abbrev pub invariant-loop-number : goal.invariant-loop-number
invariant-loop-number l = (t : Numbering) (xs : List (List ℕ)) → AreNumbers (names_of t) xs l.numbers → AreFor t l.initial.places →
    PutsPlaces t (λ x. has (take l.number-index xs) x) (Some l.place) l.initial.places l.places
