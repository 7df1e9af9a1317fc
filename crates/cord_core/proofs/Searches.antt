-- Searches answer places, and the order the first difference.
use Rattle.std.proofs.Common.{◌≡◌, ◌≢◌, ◌≤◌, ◌+◌, ◌==◌, ◌⊎◌, ℕ, zero, suc, ℤ, pos, negsuc, Bool, true, false, List, [], ◌∷◌, ◌++◌, length}
use Rattle.std.proofs.Common.{drop, Option, Some, None, refl, sym, ap, ◌∙◌, subst, inl, inr, ⊎_elim, arith, eq-eqb}
use Rattle.std.specs.Prelude.{slice_get, nat_le, nat_lt, if◌then◌else◌}
use Rattle.std.proofs.lemmas.Bool.{leb-true, leb-false, eqb-true, eqb-false}
use Rattle.std.proofs.lemmas.List.{length-drop}
use borrow.Author.Tests.{ltb-true}
use Rattle.std.proofs.lemmas.Bool.{ltb-false}
use Rattle.cord_core.specs.Texts.{begins_with, first_from, first, StandsAt, IsFirst, here_or, last, IsLast, order, IsLess, IsOrder}
use Rattle.cord_core.proofs.Places.{next_here}

differ : false ≡ true → ⊥
differ e = cc

-- a text begins with s where it is s and some rest
begun : (x s : List ℕ) → begins_with x s ≡ true → (rest : List ℕ) × (x ≡ s ++ rest)
begun x [] e = (x, refl)
begun [] (c ∷ s) e = absurd (differ e)
begun (b ∷ x) (c ∷ s) e = pick (b == c) refl (λ h. begun x s h) e
  where
    pick : (v : Bool) → (b == c) ≡ v → (begins_with x s ≡ true → (rest : List ℕ) × (x ≡ s ++ rest)) →
        (if v then begins_with x s else false) ≡ true → (rest : List ℕ) × (b ∷ x ≡ (c ∷ s) ++ rest)
    pick true same ih h =
        let w = ih h in
        let one : b ≡ c = eqb-true b c same in
        let two : x ≡ s ++ w.0 = w.1 in
        (w.0, cc (one, two))
    pick false same ih h = absurd (differ h)

begins : (s rest : List ℕ) → begins_with (s ++ rest) s ≡ true
begins [] [] = refl
begins [] (b ∷ rest) = refl
begins (c ∷ s) rest = rw (eq-eqb c c refl) (begins s rest)

module _ (x s : List ℕ) where
  stands : (p : ℕ) (y : List ℕ) → drop p x ≡ y → p ≤ length x → begins_with y s ≡ true → StandsAt x s p
  stands p y e le h = let w = begun y s h in record { within = le; rest = w.0; here = e ∙ w.1 }

  stands_not : (p : ℕ) (y : List ℕ) → drop p x ≡ y → begins_with y s ≡ false → StandsAt x s p → ⊥
  stands_not p y e h at =
      let same : y ≡ s ++ at.rest = sym e ∙ at.here in
      differ (sym h ∙ ap (λ (z : List ℕ). begins_with z s) same ∙ begins s at.rest)

  -- a search from one place further, where s doesn't stand here
  one_before : (p : ℕ) (o : Option ℕ) → (StandsAt x s p → ⊥) → IsFirst x (p + 1) s o → IsFirst x p s o
  one_before p (Some r) none (le, at, least) = (
    omega arith,
    at,
    λ q from to here.
        ⊎_elim (λ (e : q ≡ p). none (subst (λ (n : ℕ). StandsAt x s n) e here)) (λ (more : p + 1 ≤ q). least q more to here)
        (at_or_after p q from),
  )
    where
      at_or_after : (p q : ℕ) → p ≤ q → (q ≡ p) ⊎ (p + 1 ≤ q)
      at_or_after p q le = grind arith
  one_before p None none h = λ q from here. ⊎_elim (λ (e : q ≡ p). none (subst (λ (n : ℕ). StandsAt x s n) e here))
      (λ (more : p + 1 ≤ q). h q more here) (at_or_after p q from)
    where
      at_or_after : (p q : ℕ) → p ≤ q → (q ≡ p) ⊎ (p + 1 ≤ q)
      at_or_after p q le = grind arith

  from_here : (y : List ℕ) (p : ℕ) → drop p x ≡ y → p ≤ length x → IsFirst x p s (first_from p y s)
  from_here [] p e le = pick (begins_with [] s) refl
    where
      long : length x ≡ p
      long = let shown = length-drop p x in omega (arith, shown, ap (λ (z : List ℕ). length z) e)

      pick : (v : Bool) → begins_with [] s ≡ v → IsFirst x p s (if v then Some p else None)
      pick true h = (omega arith, stands p [] e le h, λ q from to at. omega arith)
      pick false h = λ q from at. let same : q ≡ p = omega (arith, long, at.within) in
          stands_not p [] e h (subst (λ (n : ℕ). StandsAt x s n) same at)
  from_here (b ∷ y) p e le = pick (begins_with (b ∷ y) s) refl (from_here y (p + 1) (next_here x p b y e)
      (omega (arith, length-drop p x, ap (λ (z : List ℕ). length z) e)))
    where
      pick : (v : Bool) → begins_with (b ∷ y) s ≡ v → IsFirst x (p + 1) s (first_from (p + 1) y s) →
          IsFirst x p s (if v then Some p else first_from (p + 1) y s)
      pick true h ih = (omega arith, stands p (b ∷ y) e le h, λ q from to at. omega arith)
      pick false h ih = one_before p (first_from (p + 1) y s) (stands_not p (b ∷ y) e h) ih

  -- `first` answers the least place of at least i
  pub first_is_least : (i : ℕ) → IsFirst x i s (first x i s)
  first_is_least i = pick (nat_le i (length x)) refl
    where
      pick : (v : Bool) → nat_le i (length x) ≡ v → IsFirst x i s (if v then first_from i (drop i x) s else None)
      pick true e = from_here (drop i x) i refl (leb-true i (length x) e)
      pick false e = λ q from at. omega (arith, leb-false i (length x) e, at.within)

module _ (x : List ℕ) (c : ℕ) where
  some_other : (b : ℕ) → (b == c) ≡ false → Some b ≡ Some c → ⊥
  some_other b e h = eqb-false b c e (the_same h)
    where
      the_same : Some b ≡ Some c → b ≡ c
      the_same h = cc

  no_byte : None ≡ Some c → ⊥
  no_byte h = cc

  only_zero : (o : Option ℕ) → slice_get x 0 ≡ o → (o ≡ Some c → ⊥) → (q : ℕ) → q ≤ 0 → slice_get x q ≢ Some c
  only_zero o e none q le h = let same : q ≡ 0 = omega arith in none (sym e ∙ ap (λ (n : ℕ). slice_get x n) (sym same) ∙ h)

  at_zero : (o : Option ℕ) → slice_get x 0 ≡ o → IsLast x 0 c (here_or 0 o c None)
  at_zero None e = only_zero None e no_byte
  at_zero (Some b) e = pick (b == c) refl
    where
      pick : (v : Bool) → (b == c) ≡ v → IsLast x 0 c (if v then Some 0 else None)
      pick true h = (omega arith, e ∙ ap (λ (n : ℕ). Some n) (eqb-true b c h), λ q lt le. absurd (omega arith))
      pick false h = only_zero (Some b) e (some_other b h)

  last_or_before : (i q : ℕ) → q ≤ suc i → (q ≡ suc i) ⊎ (q ≤ i)
  last_or_before i q le = grind arith

  -- the same answer for one place more, where the byte doesn't stand there
  one_more : (i : ℕ) (o : Option ℕ) → (slice_get x (suc i) ≡ Some c → ⊥) → IsLast x i c o → IsLast x (suc i) c o
  one_more i (Some p) none (le, at, greatest) = (
    omega arith,
    at,
    λ q lt to here.
        ⊎_elim (λ (e : q ≡ suc i). none (ap (λ (n : ℕ). slice_get x n) (sym e) ∙ here)) (λ (less : q ≤ i). greatest q lt less here)
        (last_or_before i q to),
  )
  one_more i None none h = λ q to here. ⊎_elim (λ (e : q ≡ suc i). none (ap (λ (n : ℕ). slice_get x n) (sym e) ∙ here))
      (λ (less : q ≤ i). h q less here) (last_or_before i q to)

  next_place : (i : ℕ) (o : Option ℕ) → slice_get x (suc i) ≡ o → (earlier : Option ℕ) → IsLast x i c earlier →
      IsLast x (suc i) c (here_or (suc i) o c earlier)
  next_place i None e earlier ih = one_more i earlier (λ h. no_byte (sym e ∙ h)) ih
  next_place i (Some b) e earlier ih = pick (b == c) refl
    where
      pick : (v : Bool) → (b == c) ≡ v → IsLast x (suc i) c (if v then Some (suc i) else earlier)
      pick true h = (omega arith, e ∙ ap (λ (n : ℕ). Some n) (eqb-true b c h), λ q lt le. absurd (omega arith))
      pick false h = one_more i earlier (λ k. some_other b h (sym e ∙ k)) ih

  -- `last` answers the greatest place of at most i
  pub last_is_greatest : (i : ℕ) → IsLast x i c (last x i c)
  last_is_greatest zero = at_zero (slice_get x 0) refl
  last_is_greatest (suc i) = next_place i (slice_get x (suc i)) refl (last x i c) (last_is_greatest i)

-- the same first bytes on both sides
more_less : (b c : ℕ) (x y : List ℕ) → b ≡ c → IsLess x y → IsLess (b ∷ x) (c ∷ y)
more_less b c x y e (inl (d, rest, is)) = inl (d, rest, bytes_are b c x y (d ∷ rest) e is)
  where
    bytes_are : (b c : ℕ) (x y rest : List ℕ) → b ≡ c → y ≡ x ++ rest → c ∷ y ≡ (b ∷ x) ++ rest
    bytes_are b c x y rest e is = cc (sym e, is)
more_less b c x y e (inr (prefix, d, f, xs, ys, one, two, lt)) =
    inr (b ∷ prefix, d, f, xs, ys, ap (λ (z : List ℕ). b ∷ z) one, head_is b c y (prefix ++ (f ∷ ys)) e two, lt)
  where
    head_is : (b c : ℕ) (y z : List ℕ) → b ≡ c → y ≡ z → c ∷ y ≡ b ∷ z
    head_is b c y z e is = cc (sym e, is)

more_order : (b c : ℕ) (x y : List ℕ) (z : ℤ) → b ≡ c → IsOrder x y z → IsOrder (b ∷ x) (c ∷ y) z
more_order b c x y (pos zero) e h = heads_same b c x y e h
  where
    heads_same : (b c : ℕ) (x y : List ℕ) → b ≡ c → x ≡ y → b ∷ x ≡ c ∷ y
    heads_same b c x y e h = cc (e, h)
more_order b c x y (pos (suc zero)) e h = more_less c b y x (sym e) h
more_order b c x y (pos (suc (suc n))) e h = absurd h
more_order b c x y (negsuc zero) e h = more_less b c x y e h
more_order b c x y (negsuc (suc n)) e h = absurd h

-- `order` answers by the first place of difference
pub order_is : (x y : List ℕ) → IsOrder x y (order x y)
order_is [] [] = refl
order_is [] (c ∷ y) = inl (c, y, refl)
order_is (b ∷ x) [] = inl (b, x, refl)
order_is (b ∷ x) (c ∷ y) = below (nat_lt b c) refl (order_is x y)
  where
    above : (w : Bool) → nat_lt c b ≡ w → c ≤ b → IsOrder x y (order x y) → IsOrder (b ∷ x) (c ∷ y) (if w then pos 1 else order x y)
    above true e le ih = inr ([], c, b, y, x, refl, refl, ltb-true c b e)
    above false e le ih = let le' : b ≤ c = ltb-false c b e in more_order b c x y (order x y) (omega arith) ih

    below : (v : Bool) → nat_lt b c ≡ v → IsOrder x y (order x y) →
        IsOrder (b ∷ x) (c ∷ y) (if v then negsuc 0 else if nat_lt c b then pos 1 else order x y)
    below true e ih = inr ([], b, c, x, y, refl, refl, ltb-true b c e)
    below false e ih = above (nat_lt c b) refl (ltb-false b c e) ih
