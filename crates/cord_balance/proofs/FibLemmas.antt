-- Laws of Fibonacci numbers.
use Rattle.std.proofs.Common.{◌≡◌, ℕ, ◌+◌, ◌<◌, ◌≤◌, refl, arith, zero, suc}
use Rattle.std.proofs.Common.{⊎_elim}
use Rattle.std.proofs.lemmas.Bool.{cases_lt}
use Rattle.cord_io.specs.declared.TheConstants.{MAX_LEN}
use Rattle.cord_balance.specs.declared.TheConstants.{MAX_INDEX}
use Rattle.cord_balance.specs.Fib.{fib_of}

-- each is the sum of the two before it
pub fib_sum : (n k : ℕ) → k ≡ n + 2 → fib_of k ≡ fib_of n + fib_of (n + 1)
unfolding fib_of
fib_sum n k e = let a : n + 2 ≡ suc (suc n) = omega arith in let b : n + 1 ≡ suc n = omega arith in rw (e, a, b) refl

-- the next one is no less
fib_up : (n : ℕ) → fib_of n ≤ fib_of (suc n)
unfolding fib_of
fib_up zero = omega arith
fib_up (suc n) = omega arith

-- a later one is no less
pub fib_mono : (m n : ℕ) → m ≤ n → fib_of m ≤ fib_of n
fib_mono m zero h = let e : m ≡ 0 = omega arith in rw e (omega arith)
fib_mono m (suc n) h =
    ⊎_elim (λ (a : m < suc n). let k : fib_of m ≤ fib_of n = fib_mono m n (omega arith) in
    let u : fib_of n ≤ fib_of (suc n) = fib_up n in omega arith)
    (λ (b : suc n ≤ m). let e : m ≡ suc n = omega arith in rw e (omega arith)) (cases_lt m (suc n))

-- what is below an earlier one comes before it
pub fib_below : (m n : ℕ) → fib_of m < fib_of n → m < n
fib_below m n h = ⊎_elim (λ (a : m < n). a) (λ (b : n ≤ m). let k : fib_of n ≤ fib_of m = fib_mono n m b in omega arith) (cases_lt m n)

pub fib_of_2 : fib_of 2 ≡ 1
unfolding fib_of
fib_of_2 = refl

pub fib_of_3 : fib_of 3 ≡ 2
unfolding fib_of
fib_of_3 = refl

-- F_0, F_1, F_2 and F_3, as the loops begin with them
pub fib_of_0 : fib_of 0 ≡ 0
unfolding fib_of
fib_of_0 = refl

pub fib_of_1 : fib_of 1 ≡ 1
unfolding fib_of
fib_of_1 = refl

-- the one after the last that is served
pub fib_of_61 : fib_of 61 ≡ 2504730781961
unfolding fib_of
fib_of_61 = refl

-- the last one that is served
pub fib_of_60 : fib_of 60 ≡ 1548008755920
unfolding fib_of
fib_of_60 = refl

-- the next one, as a loop computes it
pub fib_step : (n low high : ℕ) → low ≡ fib_of n → high ≡ fib_of (n + 1) → low + high ≡ fib_of (n + 1 + 1)
fib_step n low high a b = let e : fib_of (n + 1 + 1) ≡ fib_of n + fib_of (n + 1) = fib_sum n (n + 1 + 1) (omega arith) in omega arith

-- no further than the one after the last
pub fib_fits : (n low high : ℕ) → n < MAX_INDEX → low ≡ fib_of n → high ≡ fib_of (n + 1) → low + high ≤ 2504730781961
fib_fits n low high h a b =
    let e : low + high ≡ fib_of (n + 1 + 1) = fib_step n low high a b in
    let k : fib_of (n + 1 + 1) ≤ fib_of 61 = fib_mono (n + 1 + 1) 61 (omega arith) in
    omega (arith, fib_of_61)

-- one that is no text's length or less comes before the last
pub fib_index : (n : ℕ) → fib_of n ≤ MAX_LEN → n < MAX_INDEX
fib_index n h = fib_below n MAX_INDEX (omega (arith, fib_of_60))

pub ruleset fibs = (fib_of_0, fib_of_1, fib_of_2, fib_of_3, fib_step, fib_fits, fib_index)
