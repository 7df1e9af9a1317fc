-- Members in a `cat` as they stand, and expressions in the place of operands.
use Rattle.std.specs.Prelude.{◌≡◌, ℕ, List, [], ◌∷◌, Ok}
use Rattle.cord_meaning.specs.State.{State}
use Rattle.cord_plan.specs.Exprs.{Expr, Exprs, nothing, member}
use Rattle.cord_plan.specs.Values.{text_in}

-- these expressions as members, each as it is
abbrev pub nested : List Expr → Exprs
nested [] = nothing
nested (e ∷ es) = member e (nested es)

-- these expressions have these texts, and none of them has a fault
abbrev pub HaveTexts : ℕ → State → List Expr → List (List ℕ) → Type 0
HaveTexts limit s [] [] = Unit {0}
HaveTexts limit s [] (t ∷ ts) = ⊥
HaveTexts limit s (e ∷ es) [] = ⊥
HaveTexts limit s (e ∷ es) (t ∷ ts) = (text_in limit s e ≡ Ok t) × HaveTexts limit s es ts
