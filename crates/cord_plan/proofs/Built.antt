-- Only what is read later is built.
use Rattle.std.specs.Prelude.{◌≡◌, ◌+◌, ◌∷◌}
use Rattle.cord_plan.proofs.Common.{ℕ, zero, suc, Bool, true, false, List, Option, Some, None, refl, subst, arith, slice_get, Statement}
use Rattle.cord_plan.proofs.Common.{Put, Expr, target_of, ChoiceTable, Made, Operation, Build, or_nothing, operation}
use Rattle.cord_plan.proofs.Common.{operations, is_dead, is_first}

-- the name that an operation builds
abbrev built : Operation → Option (List ℕ)
built (Build line x made) = Some x
built _ = None

-- an operation that builds a name is that of a line that assigns it, whose target isn't dead
record Builds (target : Option (List ℕ)) (dead : Bool) (x : List ℕ) : Type 0 where
  assigned : target ≡ Some x
  living : dead ≡ false

builds : (l : Statement) (e : Expr) (dead paired : Bool) (x : List ℕ) → built (operation l e dead paired) ≡ Some x →
    Builds (target_of l) dead x
builds (Put line operand) e dead paired x h = let bad : ⊥ = cc in absurd bad
builds l e true paired x h = let bad : ⊥ = cc in absurd bad
builds l e false true x h = record { assigned = cc; living = refl }
builds l e false false x h = record { assigned = cc; living = refl }

lives : (later : List ℕ → ℕ → Bool) (p : ℕ) (target : Option (List ℕ)) (x : List ℕ) → target ≡ Some x → is_dead later p target ≡ false →
    later x p ≡ true
lives later p None x same e = let bad : ⊥ = cc in absurd bad
lives later p (Some y) x same e = let y_is : y ≡ x = cc in pick (later x p) refl
  where
    pick : (v : Bool) → later x p ≡ v → later x p ≡ true
    pick true f = f
    pick false f = let bad : ⊥ = cc in absurd bad

module _ (later : List ℕ → ℕ → Bool) (table : ChoiceTable) where
  pub built_later : (p : ℕ) (s : List Statement) (entries : ChoiceTable) (k line : ℕ) (x : List ℕ) (made : Made) →
      slice_get (operations later table p s entries) k ≡ Some (Build line x made) → later x (p + k) ≡ true
  built_later p (l ∷ rest) (entry ∷ entries) zero line x made e =
      let o : built (operation l (or_nothing entry.0) (is_dead later p (target_of l)) (is_first p table)) ≡ Some x = cc in
      let b : Builds (target_of l) (is_dead later p (target_of l)) x =
      builds l (or_nothing entry.0) (is_dead later p (target_of l)) (is_first p table) x o in
      let same : p ≡ p + 0 = omega arith in
      subst (λ (n : ℕ). later x n ≡ true) same (lives later p (target_of l) x b.assigned b.living)
  built_later p (l ∷ rest) (entry ∷ entries) (suc k) line x made e =
      let same : p + 1 + k ≡ p + suc k = omega arith in
      subst (λ (n : ℕ). later x n ≡ true) same (built_later (p + 1) rest entries k line x made e)
  built_later p _ _ k line x made e = let bad : ⊥ = cc in absurd bad
