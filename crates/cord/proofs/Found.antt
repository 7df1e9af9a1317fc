-- Places that are found, and places past the end.
use Rattle.std.proofs.Common.{◌≡◌, inl, inr, ℕ, zero, suc, ◌+◌, ◌-◌, ◌<◌, ◌≤◌, List, ◌++◌, length, drop, Option, Some, None, refl, ◌∙◌, sym, ap}
use Rattle.std.proofs.Common.{subst, arith, length-append, length-drop}
use Rattle.std.specs.Prelude.{min, IfSome}
use Rattle.std.proofs.lemmas.Bool.{cases_lt}
use Rattle.std.proofs.lemmas.Option.{slice_get_past}
use Rattle.cord_core.specs.Texts.{first, StandsAt, IsFirst, last}
use Rattle.cord_core.proofs.Searches.{first_is_least}
use Rattle.cord.specs.Places.{last_before}

-- an answer that can't be a place
no_place : (o : Option ℕ) → ((p : ℕ) → o ≡ Some p → ⊥) → o ≡ None
no_place None h = refl
no_place (Some p) h = absurd (h p refl)

module _ (x s : List ℕ) where
  stands_inside : (p : ℕ) → StandsAt x s p → p + length s ≤ length x
  stands_inside p at =
      let e : length (drop p x) ≡ length (s ++ at.rest) = ap (λ (y : List ℕ). length y) at.here in
      omega (arith, e, length-drop p x, length-append s at.rest, at.within)

  -- what doesn't fit after the start is found nowhere
  pub first_beyond : (i : ℕ) → length x < i + length s → first x i s ≡ None
  first_beyond i lt = no_place (first x i s) (λ p e. apart p (subst (λ (o : Option ℕ). IsFirst x i s o) e (first_is_least x s i)))
    where
      apart : (p : ℕ) → IsFirst x i s (Some p) → ⊥
      apart p f = omega (arith, lt, f.0, stands_inside p f.1)

module _ (x : List ℕ) (c : ℕ) where
  -- the places up to one are those before the next
  pub last_up_to : (m : ℕ) → 0 < m → last x (m - 1) c ≡ last_before x m c
  last_up_to zero lt = absurd (omega (arith, lt))
  last_up_to (suc i) lt = let e : suc i - 1 ≡ i = omega arith in ap (λ (n : ℕ). last x n c) e

  -- one place more, past the end
  last_one_more : (e : ℕ) → length x ≤ e → last_before x (suc e) c ≡ last_before x e c
  last_one_more zero le = rw (slice_get_past x 0 le) refl
  last_one_more (suc e) le = rw (slice_get_past x (suc e) le) refl

  last_past : (e : ℕ) → length x ≤ e → last_before x e c ≡ last_before x (length x) c
  last_past zero le = let none : length x ≡ 0 = omega (arith, le) in ap (λ (n : ℕ). last_before x n c) (sym none)
  last_past (suc e) le = elim (cases_lt e (length x)) [
    | inl h ↦ let same : suc e ≡ length x = omega (arith, h, le) in ap (λ (n : ℕ). last_before x n c) same
    | inr h ↦ last_one_more e h ∙ last_past e h
  ]

  -- an end past that of the text may be clipped
  pub last_clipped : (e : ℕ) → last_before x (min e (length x)) c ≡ last_before x e c
  last_clipped e = elim (cases_lt e (length x)) [
    | inl h ↦ let same : min e (length x) ≡ e = omega (arith, h) in ap (λ (n : ℕ). last_before x n c) same
    | inr h ↦ let same : min e (length x) ≡ length x = omega (arith, h) in ap (λ (n : ℕ). last_before x n c) same ∙ sym (last_past e h)
  ]

-- a place before that of the end
pub below_end : (m e : ℕ) → 0 < m → m ≤ e → (o : Option ℕ) → IfSome o (λ p. p ≤ m - 1) → IfSome o (λ p. p < e)
below_end m e some low None h = tt
below_end m e some low (Some p) h = omega (arith, some, low, h)
