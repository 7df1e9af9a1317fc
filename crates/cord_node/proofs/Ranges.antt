-- Ranges of lists: `take n (drop i xs)`.
use Rattle.std.proofs.Common.{◌≡◌, ℕ, ◌+◌, ◌-◌, ◌≤◌, List, [], ◌∷◌, ◌++◌, length, take, drop, refl, arith, ◌∙◌, sym, ap, suc, zero}
use Rattle.std.proofs.Common.{length-drop}
use Rattle.std.specs.List.{range_with_len}
use Rattle.std.proofs.lemmas.List.{drop-take, take-take, drop-drop, take-append-le, drop-append-le, drop_at, take_all}
use native.Mathlib.Numerals.{unary_clauses}

-- a range of a prefix is a range of the whole
pub range_of_take : {X : Type 0} (xs : List X) (i n m : ℕ) → i + n ≤ m → take n (drop i (take m xs)) ≡ take n (drop i xs)
range_of_take xs i n m h =
    let e : m ≡ i + (m - i) = omega arith in
    let k : n ≤ m - i = omega arith in
    rw e (rw drop-take (take-take n (m - i) (drop i xs) k))

-- a range of a range
pub range_of_range : {X : Type 0} (xs : List X) (i n j m : ℕ) → i + n ≤ m → take n (drop i (take m (drop j xs))) ≡ take n (drop (j + i) xs)
range_of_range xs i n j m h = range_of_take (drop j xs) i n m h ∙ ap (λ (ys : List _). take n ys) (drop-drop i j xs)

-- a range inside the first of two lists
pub range_left : {X : Type 0} (xs ys : List X) (i n : ℕ) → i + n ≤ length xs → take n (drop i (xs ++ ys)) ≡ take n (drop i xs)
range_left xs ys i n h =
    let a : i ≤ length xs = omega arith in
    let b : n ≤ length (drop i xs) = rw length-drop (omega arith) in
    rw (drop-append-le i xs ys a, take-append-le n (drop i xs) ys b)

-- what is after the first of two lists
pub drop-append_right : {X : Type 0} (xs ys : List X) (i : ℕ) → length xs ≤ i → drop i (xs ++ ys) ≡ drop (i - length xs) ys
drop-append_right xs ys i h =
    let e : i ≡ length xs + (i - length xs) = omega arith in
    let f : drop (length xs + (i - length xs)) (xs ++ ys) ≡ drop (i - length xs) ys =
    sym (drop-drop (i - length xs) (length xs) (xs ++ ys)) ∙ ap (λ (zs : List _). drop (i - length xs) zs) (drop_at xs ys (length xs) refl)
    in
    ap (λ (k : ℕ). drop k (xs ++ ys)) e ∙ f

-- a prefix that reaches into the second of two lists
pub take-append_right : {X : Type 0} (xs ys : List X) (n : ℕ) → length xs ≤ n → take n (xs ++ ys) ≡ xs ++ take (n - length xs) ys
take-append_right [] ys n h = grind arith
take-append_right (x ∷ xs) ys zero h = absurd (omega arith)
take-append_right (x ∷ xs) ys (suc n) h = simp unary_clauses (ap (λ (l : List _). x ∷ l) (take-append_right xs ys n (omega arith)))

-- a range inside the second of two lists
pub range_right : {X : Type 0} (xs ys : List X) (i n : ℕ) → length xs ≤ i → take n (drop i (xs ++ ys)) ≡ take n (drop (i - length xs) ys)
range_right xs ys i n h = ap (λ (zs : List _). take n zs) (drop-append_right xs ys i h)

-- a range over the seam
pub range_both : {X : Type 0} (xs ys : List X) (i n : ℕ) → i ≤ length xs → length xs ≤ i + n →
    take n (drop i (xs ++ ys)) ≡ take (length xs - i) (drop i xs) ++ take (i + n - length xs) (drop 0 ys)
range_both xs ys i n a b =
    let l : length (drop i xs) ≡ length xs - i = length-drop i xs in
    let k : length (drop i xs) ≤ n = omega arith in
    let e : n - length (drop i xs) ≡ i + n - length xs = omega arith in
    let w : take (length xs - i) (drop i xs) ≡ drop i xs = take_all (length xs - i) (drop i xs) (omega arith) in
    rw (drop-append-le i xs ys a, take-append_right (drop i xs) ys n k, e, w) refl

-- a range of numbers without its first k
pub drop-range_with_len : (a n k : ℕ) → drop k (range_with_len a n) ≡ range_with_len (a + k) (n - k)
drop-range_with_len a zero zero = refl
drop-range_with_len a zero (suc k) = let e : 0 - suc k ≡ 0 = omega arith in rw e refl
drop-range_with_len a (suc n) zero = let e : a + 0 ≡ a = omega arith in let f : suc n - 0 ≡ suc n = omega arith in rw (e, f) refl
drop-range_with_len a (suc n) (suc k) =
    let e : a + suc k ≡ a + 1 + k = omega arith in
    let f : suc n - suc k ≡ n - k = omega arith in
    rw (e, f) (drop-range_with_len (a + 1) n k)

-- the first k of a range of numbers
pub take-range_with_len : (a n k : ℕ) → k ≤ n → take k (range_with_len a n) ≡ range_with_len a k
take-range_with_len a n zero h = refl
take-range_with_len a zero (suc k) h = absurd (omega arith)
take-range_with_len a (suc n) (suc k) h = ap (λ (l : List ℕ). a ∷ l) (take-range_with_len (a + 1) n k (omega arith))

-- the range that is the whole list
pub range_whole : {X : Type 0} (xs : List X) (i n : ℕ) → n ≡ length xs → i + n ≤ length xs → take n (drop i xs) ≡ xs
range_whole xs i n e h = let z : i ≡ 0 = omega arith in rw z (take_all n xs (omega arith))
