-- What searches and comparisons answer, over plain texts.
use Rattle.std.specs.Prelude.{◌≡◌, ◌≢◌, ◌<◌, ◌≤◌, ◌⊎◌, ℕ, zero, suc, ◌+◌, ℤ, pos, negsuc, Bool, true, false, ◌==◌, List, [], ◌∷◌, ◌++◌}
use Rattle.std.specs.Prelude.{length, drop, Option, Some, None, slice_get, nat_le, nat_lt, if◌then◌else◌}

-- whether a text begins with s
abbrev pub begins_with : List ℕ → List ℕ → Bool
begins_with x [] = true
begins_with [] (c ∷ s) = false
begins_with (b ∷ x) (c ∷ s) = if b == c then begins_with x s else false

-- the first place of s in a text whose first byte has the place p
abbrev pub first_from : ℕ → List ℕ → List ℕ → Option ℕ
first_from p [] s = if begins_with [] s then Some p else None
first_from p (b ∷ x) s = if begins_with (b ∷ x) s then Some p else first_from (p + 1) x s

-- the least place p of at least i, and at most the length of x, where s stands in x
abbrev pub first : List ℕ → ℕ → List ℕ → Option ℕ
first x i s = if nat_le i (length x) then first_from i (drop i x) s else None

-- s stands in x at place p
pub record StandsAt (x s : List ℕ) (p : ℕ) : Type 0 where
  pub within : p ≤ length x
  pub rest : List ℕ
  pub here : drop p x ≡ s ++ rest

-- what `first` answers, said of places: the least of at least i where s stands, or none where there is none
abbrev pub IsFirst : List ℕ → ℕ → List ℕ → Option ℕ → Type 0
IsFirst x i s (Some p) = (i ≤ p) × StandsAt x s p × ((q : ℕ) → i ≤ q → q < p → StandsAt x s q → ⊥)
IsFirst x i s None = (q : ℕ) → i ≤ q → StandsAt x s q → ⊥

-- this place where it holds the byte c, and else an earlier answer
abbrev pub here_or : ℕ → Option ℕ → ℕ → Option ℕ → Option ℕ
here_or p (Some b) c earlier = if b == c then Some p else earlier
here_or p None c earlier = earlier

-- the greatest place of at most i where x has the byte c
abbrev pub last : List ℕ → ℕ → ℕ → Option ℕ
last x zero c = here_or zero (slice_get x zero) c None
last x (suc i) c = here_or (suc i) (slice_get x (suc i)) c (last x i c)

-- what `last` answers, said of places
abbrev pub IsLast : List ℕ → ℕ → ℕ → Option ℕ → Type 0
IsLast x i c (Some p) = (p ≤ i) × (slice_get x p ≡ Some c) × ((q : ℕ) → p < q → q ≤ i → slice_get x q ≢ Some c)
IsLast x i c None = (q : ℕ) → q ≤ i → slice_get x q ≢ Some c

-- -1, 0 or 1: bytes as unsigned at the first place of difference, and a proper prefix is less
abbrev pub order : List ℕ → List ℕ → ℤ
order [] [] = pos 0
order [] (c ∷ y) = negsuc 0
order (b ∷ x) [] = pos 1
order (b ∷ x) (c ∷ y) = if nat_lt b c then negsuc 0 else if nat_lt c b then pos 1 else order x y

-- x is less than y: y is x and some bytes more, or at the first place of difference x has the lesser byte
abbrev pub IsLess : List ℕ → List ℕ → Type 0
IsLess x y =
    ((c : ℕ) × (rest : List ℕ) × (y ≡ x ++ (c ∷ rest)))
    ⊎ ((prefix : List ℕ) × (b c : ℕ) × (xs ys : List ℕ) × (x ≡ prefix ++ (b ∷ xs)) × (y ≡ prefix ++ (c ∷ ys)) × (b < c))

-- what `order` answers, said of the texts
abbrev pub IsOrder : List ℕ → List ℕ → ℤ → Type 0
IsOrder x y (pos zero) = x ≡ y
IsOrder x y (pos (suc zero)) = IsLess y x
IsOrder x y (pos (suc (suc n))) = ⊥
IsOrder x y (negsuc zero) = IsLess x y
IsOrder x y (negsuc (suc n)) = ⊥
