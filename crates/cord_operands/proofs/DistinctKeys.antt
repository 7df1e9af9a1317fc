-- Keys tell short names apart.
use Rattle.std.proofs.Common.{◌≡◌, ◌≢◌, ℕ, suc, ◌+◌, ◌*◌, ◌^◌, ◌<◌, Bool, true, false, List, [], ◌∷◌, length, get_or, nat_lt, refl, sym, ap}
use Rattle.std.proofs.Common.{arith, if◌then◌else◌, subst, ◌∙◌}
use Rattle.std.specs.Str.{bytes_eq}
use Rattle.std.proofs.lemmas.Bool.{lt-ltb, ltb-true}
use Rattle.std.proofs.lemmas.Slice.Eq.{bytes_eq-Decides}
use Rattle.cord_operands.specs.Keys.{exact_from, hash_from, key_of}

-- all are bytes
abbrev pub AreBytes : List ℕ → Type 0
AreBytes x = (k : ℕ) → get_or x k 0 < 256

-- two names of one length whose digits make one number are one name
pub same_digits : (x y : List ℕ) (p q : ℕ) → AreBytes x → AreBytes y → length x ≡ length y → exact_from p x ≡ exact_from q y →
    (p ≡ q) × (x ≡ y)
same_digits [] [] p q are_x are_y long e = (e, refl)
same_digits [] (c ∷ cs) p q are_x are_y long e = let bad : ⊥ = cc in absurd bad
same_digits (b ∷ bs) [] p q are_x are_y long e = let bad : ⊥ = cc in absurd bad
same_digits (b ∷ bs) (c ∷ cs) p q are_x are_y long e =
    let rest : length bs ≡ length cs = omega (arith, long) in
    let ih : (p * 256 + b ≡ q * 256 + c) × (bs ≡ cs) =
    same_digits bs cs (p * 256 + b) (q * 256 + c) (λ k. are_x (suc k)) (λ k. are_y (suc k)) rest e in
    let low : b < 256 = are_x 0 in
    let other : c < 256 = are_y 0 in
    let heads : b ≡ c = omega (arith, ih.0, low, other) in
    let prefixes : p ≡ q = omega (arith, ih.0, low, other) in
    (prefixes, ap (λ (l : List ℕ). b ∷ l) ih.1 ∙ ap (λ (h : ℕ). h ∷ cs) heads)

-- a key that is no hash is that of a short name
pub exact_key : (x : List ℕ) → key_of x < 2 ^ 63 → (length x < 8) × (key_of x ≡ exact_from 0 x * 8 + length x)
exact_key x small = by_length (nat_lt (length x) 8) refl small
  where
    by_length : (v : Bool) → nat_lt (length x) 8 ≡ v → (if v then exact_from 0 x * 8 + length x else 2 ^ 63 + hash_from 0 x) < 2 ^ 63 →
        (length x < 8) × ((if v then exact_from 0 x * 8 + length x else 2 ^ 63 + hash_from 0 x) ≡ exact_from 0 x * 8 + length x)
    by_length true e s = (ltb-true (length x) 8 e, refl)
    by_length false e s = let bad : ⊥ = omega (arith, s) in absurd bad

-- names with one key that is no hash are one name
pub same_key : (x y : List ℕ) → AreBytes x → AreBytes y → key_of x ≡ key_of y → key_of x < 2 ^ 63 → bytes_eq x y ≡ true
same_key x y are_x are_y e small =
    let of_x : (length x < 8) × (key_of x ≡ exact_from 0 x * 8 + length x) = exact_key x small in
    let of_y : (length y < 8) × (key_of y ≡ exact_from 0 y * 8 + length y) = exact_key y (subst (λ (n : ℕ). n < 2 ^ 63) e small) in
    let both : exact_from 0 x * 8 + length x ≡ exact_from 0 y * 8 + length y = sym of_x.1 ∙ e ∙ of_y.1 in
    let long : length x ≡ length y = omega (arith, both, of_x.0, of_y.0) in
    let digits : exact_from 0 x ≡ exact_from 0 y = omega (arith, both, of_x.0, of_y.0) in
    (bytes_eq-Decides x y).1 (same_digits x y 0 0 are_x are_y long digits).1

-- names with other keys are other names
pub other_key : (x y : List ℕ) → key_of x ≢ key_of y → bytes_eq x y ≡ false
other_key x y other = by_test (bytes_eq x y) refl
  where
    by_test : (v : Bool) → bytes_eq x y ≡ v → v ≡ false
    by_test false e = refl
    by_test true e = absurd (other (ap key_of ((bytes_eq-Decides x y).0 e)))

-- so whether a key is no hash is whether the names are one
pub is_distinct : (x y : List ℕ) (key other : ℕ) → AreBytes x → AreBytes y → key ≡ key_of y → other ≡ key_of x → other ≡ key →
    key < 2 ^ 63 → nat_lt key (2 ^ 63) ≡ bytes_eq x y
is_distinct x y key other are_x are_y of_y of_x e small =
    let keys : key_of x ≡ key_of y = sym of_x ∙ e ∙ of_y in
    let low : key_of x < 2 ^ 63 = subst (λ (n : ℕ). n < 2 ^ 63) (sym e ∙ of_x) small in
    lt-ltb key (2 ^ 63) small ∙ sym (same_key x y are_x are_y keys low)
