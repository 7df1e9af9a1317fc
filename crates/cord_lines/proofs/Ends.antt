-- Where the ends of lines stand in two texts, one after the other.
use Rattle.cord_lines.proofs.Common.{Bool, List, [], after_ends, ap, arith, cond, ends_in, false, if◌then◌else◌, is_end, length, min}
use Rattle.cord_lines.proofs.Common.{nat_tests, refl, suc, sum_by-append, sum_by-cons, sum_by-replicate, sym, true, zero, ℕ, ◌*◌, ◌++◌, ◌+◌}
use Rattle.cord_lines.proofs.Common.{◌-◌, ◌<◌, ◌==◌, ◌∙◌, ◌∷◌, ◌≡◌, ◌≤◌}
use Rattle.std.proofs.Common.{replicate}

pub ends-cons : (b : ℕ) (x : List ℕ) (is : Bool) → is_end b ≡ is → ends_in (b ∷ x) ≡ cond is 1 0 + ends_in x
ends-cons b x is h = sum_by-cons (λ (c : ℕ). cond (is_end c) 1 0) b x ∙ ap (λ (w : Bool). cond w 1 0 + ends_in x) h

pub ends-append : (x y : List ℕ) → ends_in (x ++ y) ≡ ends_in x + ends_in y
ends-append x y = sum_by-append (λ (c : ℕ). cond (is_end c) 1 0) x y

pub none_passed : (x : List ℕ) → after_ends 0 x ≡ 0
none_passed [] = refl
none_passed (b ∷ x) = refl

-- one byte more
pub one_more : (n : ℕ) (x : List ℕ) (b : ℕ) (is : Bool) → is_end b ≡ is → 0 < n →
    after_ends n (b ∷ x) ≡ 1 + after_ends (if is then n - 1 else n) x
one_more n x b is h lt = let none : (n == 0) ≡ false = grind (arith, nat_tests) in rw (none, h) refl

past_one : (n : ℕ) (x y : List ℕ) (b : ℕ) (is : Bool) → is_end b ≡ is → ends_in (b ∷ x) < n →
    ((m : ℕ) → ends_in x < m → after_ends m (x ++ y) ≡ length x + after_ends (m - ends_in x) y) →
    after_ends n (b ∷ (x ++ y)) ≡ 1 + (length x + after_ends (n - ends_in (b ∷ x)) y)
past_one n x y b true h lt later =
    let count : ends_in (b ∷ x) ≡ 1 + ends_in x = ends-cons b x true h in
    let same : n - 1 - ends_in x ≡ n - ends_in (b ∷ x) = omega (arith, count) in
    one_more n (x ++ y) b true h (omega (arith, lt)) ∙ ap (λ (k : ℕ). 1 + k) (later (n - 1) (omega (arith, lt, count)))
    ∙ ap (λ (k : ℕ). 1 + (length x + after_ends k y)) same
past_one n x y b false h lt later =
    let count : ends_in (b ∷ x) ≡ 0 + ends_in x = ends-cons b x false h in
    let same : n - ends_in x ≡ n - ends_in (b ∷ x) = omega (arith, count) in
    one_more n (x ++ y) b false h (omega (arith, lt)) ∙ ap (λ (k : ℕ). 1 + k) (later n (omega (arith, lt, count)))
    ∙ ap (λ (k : ℕ). 1 + (length x + after_ends k y)) same

-- the ends in the first text are passed
pub past_all : (n : ℕ) (x y : List ℕ) → ends_in x < n → after_ends n (x ++ y) ≡ length x + after_ends (n - ends_in x) y
past_all n [] y lt = let e : n ≡ n - 0 = omega arith in ap (λ (k : ℕ). after_ends k y) e ∙ omega arith
past_all n (b ∷ x) y lt = past_one n x y b (is_end b) refl lt (λ m less. past_all m x y less) ∙ omega arith

within_one : (n : ℕ) (x y : List ℕ) (b : ℕ) (is : Bool) → is_end b ≡ is → 0 < n → n ≤ ends_in (b ∷ x) →
    ((m : ℕ) → m ≤ ends_in x → after_ends m (x ++ y) ≡ after_ends m x) → after_ends n (b ∷ (x ++ y)) ≡ after_ends n (b ∷ x)
within_one n x y b true h some le later =
    one_more n (x ++ y) b true h some ∙ ap (λ (k : ℕ). 1 + k) (later (n - 1) (omega (arith, le, ends-cons b x true h)))
    ∙ sym (one_more n x b true h some)
within_one n x y b false h some le later =
    one_more n (x ++ y) b false h some ∙ ap (λ (k : ℕ). 1 + k) (later n (omega (arith, le, ends-cons b x false h)))
    ∙ sym (one_more n x b false h some)

-- the first text has as many ends
pub in_first : (n : ℕ) (x y : List ℕ) → n ≤ ends_in x → after_ends n (x ++ y) ≡ after_ends n x
in_first zero x y le = none_passed (x ++ y) ∙ sym (none_passed x)
in_first (suc n) [] y le = absurd (omega (arith, le))
in_first (suc n) (b ∷ x) y le = within_one (suc n) x y b (is_end b) refl (omega arith) le (λ m less. in_first m x y less)

-- how many ends a run has
pub times_ends : (n b one : ℕ) → cond (is_end b) 1 0 ≡ one → ends_in (replicate n b) ≡ n * one
times_ends n b one is = sum_by-replicate (λ (i : ℕ). cond (is_end i) 1 0) n b ∙ ap (λ (i : ℕ). n * i) is

-- a run of ends
pub run_of_ends : (n count : ℕ) → after_ends n (replicate count 10) ≡ min n count
run_of_ends n zero = omega arith
run_of_ends zero (suc count) = none_passed (replicate (suc count) 10) ∙ omega arith
run_of_ends (suc n) (suc count) =
    one_more (suc n) (replicate count 10) 10 true refl (omega arith) ∙ ap (λ (k : ℕ). 1 + k) (run_of_ends (suc n - 1) count) ∙ omega arith

run_cases : (n count b : ℕ) (is : Bool) → is_end b ≡ is → n ≤ ends_in (replicate count b) → after_ends n (replicate count b) ≡ n
run_cases n count b true h le =
    let ten : b ≡ 10 = grind (arith, nat_tests) in
    ap (λ (c : ℕ). after_ends n (replicate count c)) ten ∙ run_of_ends n count
    ∙ omega (arith, le, times_ends count b 1 (ap (λ (w : Bool). cond w 1 0) h))
run_cases n count b false h le =
    let none : n ≡ 0 = omega (arith, le, times_ends count b 0 (ap (λ (w : Bool). cond w 1 0) h)) in
    ap (λ (k : ℕ). after_ends k (replicate count b)) none ∙ none_passed (replicate count b) ∙ sym none

-- an end that a run has
pub run_end : (n count b : ℕ) → n ≤ ends_in (replicate count b) → after_ends n (replicate count b) ≡ n
run_end n count b le = run_cases n count b (is_end b) refl le
