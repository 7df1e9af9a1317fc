-- The last lines that assign and read a name: what a note does to the places, and what they tell.
use Rattle.std.specs.Prelude.{◌≡◌, ◌+◌, ◌<◌, ◌||◌, ◌∷◌, if◌then◌else◌}
use Rattle.cord_plan.proofs.Common.{ℕ, zero, suc, Bool, true, false, List, [], take, length, get_or, set, Option, Some, None, refl, sym, ap}
use Rattle.cord_plan.proofs.Common.{◌∙◌, arith, slice_get, unwrap_or, replicate, bytes_eq, slice_get_within, has, is_this_name, names_of}
use Rattle.cord_plan.proofs.Common.{number_of, IsNumber, AreFor, PutsPlaces, entry_at, entry_of, Numbering}
use Rattle.cord_plan.proofs.Named.{same_bytes, own_bytes}
use Rattle.cord_plan.proofs.Numbers.{number_there, place_at}
use Rattle.cord_plan.proofs.MarkedNames.{has_more}

-- an element that was set, and the others
pub set_there : {A : Type 0} (xs : List A) (n : ℕ) (v : A) → n < length xs → slice_get (set xs n v) n ≡ Some v
set_there [] n v lt = absurd (omega (arith, lt))
set_there (x ∷ xs) zero v lt = refl
set_there (x ∷ xs) (suc n) v lt = set_there xs n v (omega (arith, lt))

pub set_apart : {A : Type 0} (xs : List A) (n m : ℕ) (v : A) → (m ≡ n → ⊥) → slice_get (set xs n v) m ≡ slice_get xs m
set_apart (x ∷ xs) zero zero v differ = absurd (differ refl)
set_apart (x ∷ xs) (suc n) (suc m) v differ = set_apart xs n m v (λ e. differ (ap suc e))
set_apart _ _ _ v differ = refl

module _ (t : Numbering) (w : Option ℕ) (places : List (Option ℕ)) where
  pub puts_nothing : PutsPlaces t (λ x. false) w places places
  puts_nothing x = refl

  -- an entry for the name of a number
  puts_there : (y : List ℕ) (n : ℕ) → slice_get (names_of t) n ≡ Some y → n < length places →
      PutsPlaces t (λ x. bytes_eq x y) w places (set places n w)
  puts_there y n there lt x = by_name (bytes_eq x y) refl
    where
      by_number : (o : Option ℕ) → number_of t x ≡ o → bytes_eq x y ≡ false → entry_at (set places n w) o ≡ entry_at places o
      by_number None e other = refl
      by_number (Some m) e other = ap (λ (o : Option (Option ℕ)). unwrap_or o None) (set_apart places n m w (λ same.
          (let mine : slice_get (names_of t) m ≡ Some x = number_there t x m e in
          let one : x ≡ y = cc in
          let defining : bytes_eq x y ≡ true = ap (λ (z : List ℕ). bytes_eq x z) (sym one) ∙ own_bytes x in
          let bad : ⊥ = cc in bad)))

      by_name : (v : Bool) → bytes_eq x y ≡ v → entry_of t (set places n w) x ≡ (if v then w else entry_of t places x)
      by_name true e =
          ap (λ (z : List ℕ). entry_of t (set places n w) z) (same_bytes x y e)
          ∙ (ap (entry_at (set places n w)) (place_at (names_of t) t.distinct y n there)
          ∙ ap (λ (o : Option (Option ℕ)). unwrap_or o None) (set_there places n w lt))
      by_name false e = by_number (number_of t x) refl e

  -- an entry for a name, where there is one
  pub puts_none : (o : Option (List ℕ)) → IsNumber (names_of t) o None → PutsPlaces t (λ x. is_this_name o x) w places places
  puts_none None e = puts_nothing
  puts_none (Some y) e = let bad : ⊥ = cc in absurd bad

  pub puts_one : (o : Option (List ℕ)) (n : ℕ) → IsNumber (names_of t) o (Some n) → n < length places →
      PutsPlaces t (λ x. is_this_name o x) w places (set places n w)
  puts_one None n e lt = let bad : ⊥ = cc in absurd bad
  puts_one (Some y) n e lt = let there : slice_get (names_of t) n ≡ Some y = cc in puts_there y n there lt

  -- a number has a place
  pub number_within : (o : Option (List ℕ)) (n : ℕ) → IsNumber (names_of t) o (Some n) → AreFor t places → n < length places
  number_within None n e size = let bad : ⊥ = cc in absurd bad
  number_within (Some y) n e size =
      let there : slice_get (names_of t) n ≡ Some y = cc in
      let lt : n < length (names_of t) = slice_get_within (names_of t) n y there in
      omega (arith, lt, size)

module _ (t : Numbering) (w : Option ℕ) where
  puts_or : (f h : List ℕ → Bool) (old now new : List (Option ℕ)) → PutsPlaces t f w old now → PutsPlaces t h w now new →
      PutsPlaces t (λ x. f x || h x) w old new
  puts_or f h old now new one two x =
      two x ∙ (ap (λ (o : Option ℕ). if h x then w else o) (one x) ∙ both (f x) (h x) (entry_of t old x))
    where
      both : (v u : Bool) (o : Option ℕ) → (if u then w else (if v then w else o)) ≡ (if v || u then w else o)
      both true true o = refl
      both true false o = refl
      both false u o = refl

  pub puts_more : (names : List (List ℕ)) (i : ℕ) (y : List ℕ) (old now new : List (Option ℕ)) → i < length names → y ≡ get_or names i y →
      PutsPlaces t (λ x. has (take i names) x) w old now → PutsPlaces t (λ x. bytes_eq x y) w now new →
      PutsPlaces t (λ x. has (take (i + 1) names) x) w old new
  puts_more names i y old now new lt is one two x =
      puts_or (λ x. has (take i names) x) (λ x. bytes_eq x y) old now new one two x
      ∙ ap (λ (v : Bool). if v then w else entry_of t old x) (sym (has_more names i y x lt is))

-- nothing is noted at first
pub none_noted : (t : Numbering) (n : ℕ) (x : List ℕ) → entry_of t (replicate n None) x ≡ None
none_noted t n x = by_number (number_of t x)
  where
    at_place : (k m : ℕ) → entry_at (replicate k None) (Some m) ≡ None
    at_place (suc k) (suc m) = at_place k m
    at_place _ _ = refl

    by_number : (number : Option ℕ) → entry_at (replicate n None) number ≡ None
    by_number None = refl
    by_number (Some m) = at_place n m
