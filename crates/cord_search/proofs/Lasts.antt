-- The last place of a text in another, by searches from the back.
use Rattle.cord_search.proofs.Common.{Bool, IfSome, IsFirst, IsLastSoFar, List, Node, None, Option, Some, StandsAt, StandsNot, Table, [], ap, arith}
use Rattle.cord_search.proofs.Common.{bytes_of, cases_lt, drop, eq-eqb, false, first, first_is_least, length, min, refl, subst, suc, sym, take, true}
use Rattle.cord_search.proofs.Common.{zero, ℕ, ⊎_elim, ◌++◌, ◌+◌, ◌-◌, ◌<◌, ◌∙◌, ◌∷◌, ◌≡◌, ◌≤◌}
use Rattle.std.proofs.Math.Dec.{leb-zero}
use Rattle.std.proofs.lemmas.Bool.{false≢true}
use Rattle.std.specs.Prelude.{if◌then◌else◌}
use Rattle.cord_core.specs.Texts.{begins_with, first_from}
use Rattle.cord_search.proofs.Cuts.{first_nowhere, first_stands}
use Rattle.cord_search.proofs.Finding.{nowhere_on}
use Rattle.cord_search.specs.LastTexts.{IsLastBelow, last_below, last_text}

-- a text that begins with s has it at its front
begun : (y s : List ℕ) → begins_with y s ≡ true → StandsAt y s 0
begun y s e =
    let first_is : first y 0 s ≡ Some 0 =
    ap (λ (v : Bool). if v then first_from 0 y s else None) (leb-zero (length y)) ∙ prefix y e in
    let least : IsFirst y 0 s (Some 0) = subst (λ (r : Option ℕ). IsFirst y 0 s r) first_is (first_is_least y s 0) in least.1
  where
    prefix : (y : List ℕ) → begins_with y s ≡ true → first_from 0 y s ≡ Some 0
    prefix [] e = ap (λ (v : Bool). if v then Some 0 else None) e
    prefix (b ∷ y) e = ap (λ (v : Bool). if v then Some 0 else first_from 1 y s) e

begins : (s rest : List ℕ) → begins_with (s ++ rest) s ≡ true
begins [] [] = refl
begins [] (b ∷ rest) = refl
begins (c ∷ s) rest = rw (eq-eqb c c refl) (begins s rest)

module _ (x s : List ℕ) where
  stands : (p : ℕ) → p ≤ length x → begins_with (drop p x) s ≡ true → StandsAt x s p
  stands p le e = let at = begun (drop p x) s e in record { within = le; rest = at.rest; here = at.here }

  stands_not : (p : ℕ) → begins_with (drop p x) s ≡ false → StandsAt x s p → ⊥
  stands_not p e at = false≢true (sym e ∙ ap (λ (z : List ℕ). begins_with z s) at.here ∙ begins s at.rest)

  -- there is one last place
  pub last_only : (n : ℕ) (a : Option ℕ) → n ≤ length x + 1 → IsLastBelow x s n a → a ≡ last_below x s n
  last_only zero (Some p) le h = absurd (omega (arith, h.0))
  last_only zero None le h = refl
  last_only (suc m) a le h = pick (begins_with (drop m x) s) refl a h (λ b. last_only m b (omega (arith, le)))
    where
      pick : (v : Bool) → begins_with (drop m x) s ≡ v → (a : Option ℕ) → IsLastBelow x s (suc m) a →
          ((b : Option ℕ) → IsLastBelow x s m b → b ≡ last_below x s m) → a ≡ (if v then Some m else last_below x s m)
      pick true e (Some p) (lt, at, greatest) ih = ⊎_elim
          (λ (less : p < m). absurd (greatest m less (omega arith) (stands m (omega (arith, le)) e)))
          (λ (ge : m ≤ p). let same : p ≡ m = omega (arith, lt) in ap (λ (k : ℕ). Some k) same) (cases_lt p m)
      pick true e None none ih = absurd (none m (omega arith) (stands m (omega (arith, le)) e))
      pick false e (Some p) (lt, at, greatest) ih = ⊎_elim
          (λ (less : p < m). ih (Some p) (less, at, λ q from to. greatest q from (omega arith)))
          (λ (ge : m ≤ p). let same : p ≡ m = omega (arith, lt) in
          absurd (stands_not m e (subst (λ (k : ℕ). StandsAt x s k) same at))) (cases_lt p m)
      pick false e None none ih = ih None (λ q lt. none q (omega arith))

module _ (t : Table) (x : Option Node) (s : List ℕ) where
  -- a search found a later place
  pub best_found : (middle e q : ℕ) → Some q ≡ first (take e (bytes_of t x)) middle s → IsLastSoFar t x s (Some q) (q + 1)
  best_found middle e q is = (refl, (first_stands (bytes_of t x) s e middle q is).2)

  -- or none, so there is none after
  pub none_after : (middle high limit e : ℕ) → high + length s ≤ e + 1 → None ≡ first (take e (bytes_of t x)) middle s →
      StandsNot t x s high limit → StandsNot t x s middle limit
  none_after middle high limit e fits is none = nowhere_on (StandsAt (bytes_of t x) s) middle high limit
      (λ q low to at. first_nowhere (bytes_of t x) s e middle is q low (omega (arith, fits, to)) at) none

  -- no place is left
  pub last_found : (low high limit : ℕ) (found : Option ℕ) → high ≤ low → high ≤ limit → low ≤ high → limit ≤ length (bytes_of t x) + 1 →
      IsLastSoFar t x s found low → StandsNot t x s high limit → found ≡ last_below (bytes_of t x) s limit
  last_found low high limit None le most at_most inside (is) none = last_only (bytes_of t x) s limit None inside
      (λ q lt. none q (omega (arith, le, is)) lt)
  last_found low high limit (Some p) le most at_most inside (is, at) none = last_only (bytes_of t x) s limit (Some p) inside
      (omega (arith, is, at_most, most), at, λ q from to. none q (omega (arith, is, at_most)) to)

module _ (x s : List ℕ) (end e : ℕ) where
  -- a text that is longer than what lies before `end`
  pub last_none : e ≡ min end (length x) → e < length s → None ≡ last_text x end s
  last_none is long = let none : min end (length x) + 1 - length s ≡ 0 = omega (arith, is, long) in
      ap (last_below x s) (sym none)

  -- a text of no bytes stands at the end
  pub last_empty : e ≡ min end (length x) → length s ≡ 0 → StandsAt x s e → Some e ≡ last_text x end s
  last_empty is empty at = last_only x s (min end (length x) + 1 - length s) (Some e) (omega (arith, is, empty))
      (omega (arith, is, empty), at, λ q from to. omega (arith, is, empty, from, to))

  -- the place below which the last one is looked for
  pub last_from : (count : ℕ) → e ≡ min end (length x) → count ≡ length s → count ≤ e → last_below x s (e - count + 1) ≡ last_text x end s
  last_from count is same fits = let below : e - count + 1 ≡ min end (length x) + 1 - length s = omega (arith, is, same, fits) in
      ap (last_below x s) below

-- a text that is found below a place ends before what it could reach
pub ends_before : (r : Option ℕ) (limit n e : ℕ) → limit + n ≤ e + 1 → IfSome r (λ place. place < limit) → IfSome r (λ place. place + n ≤ e)
ends_before None limit n e fits h = tt
ends_before (Some p) limit n e fits h = omega (arith, fits, h)
