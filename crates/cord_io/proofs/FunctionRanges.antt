-- Ranges of the texts of functions.
use Rattle.std.proofs.Common.{◌≡◌, ℕ, ◌+◌, ◌-◌, ◌<◌, ◌≤◌, zero, suc, List, length, map, take, drop, get_or, ◌∷◌, refl, sym}
use Rattle.std.proofs.Common.{ap, ◌∙◌, arith}
use Rattle.std.specs.Prelude.{IsSomeAnd}
use Rattle.std.specs.List.{range_with_len}
use Rattle.std.proofs.lemmas.List.FromFn.{take-map-range_with_len, fill_by_all}
use Rattle.cord_io.specs.declared.TheConstants.{MAX_LEN}
use Rattle.cord_io.specs.FunctionTexts.{text_of, digit_at, byte_value_at}
use Rattle.cord_io.specs.inner.Functions.{function_byte, function_lengths, function_texts}

drop-function : (f : ℕ → ℕ) (a m s n : ℕ) → m ≡ s + n → drop s (map f (range_with_len a m)) ≡ map f (range_with_len (a + s) n)
drop-function f a m zero n h =
    let same : m ≡ n = omega arith in
    let here : a + 0 ≡ a = omega arith in
    rw (same, here) refl
drop-function f a zero (suc s) n h = absurd (omega arith)
drop-function f a (suc m) (suc s) n h =
    let one : (a + 1) + s ≡ a + suc s = omega arith in
    drop-function f (a + 1) m s n (omega arith) ∙ ap (λ k. map f (range_with_len k n)) one

-- the bytes of a range
pub range-text_of : (f : ℕ → ℕ) (n start count : ℕ) → start + count ≤ n →
    take count (drop start (text_of f n)) ≡ map f (range_with_len start count)
unfolding text_of
range-text_of f n start count h =
    let rest : drop start (map f (range_with_len 0 n)) ≡ map f (range_with_len (0 + start) (n - start)) =
    drop-function f 0 n start (n - start) (omega arith) in
    let from : 0 + start ≡ start = omega arith in
    ap (λ xs. take count xs) rest ∙ take-map-range_with_len f (0 + start) (n - start) count (omega arith)
    ∙ ap (λ k. map f (range_with_len k count)) from

shifted : (f : ℕ → ℕ) (a b n : ℕ) → map (λ k. f (a + k)) (range_with_len b n) ≡ map f (range_with_len (a + b) n)
shifted f a b zero = refl
shifted f a b (suc n) =
    let one : a + (b + 1) ≡ (a + b) + 1 = omega arith in
    ap (λ r. f (a + b) ∷ r) (shifted f a (b + 1) n ∙ ap (λ k. map f (range_with_len k n)) one)

-- bytes that are each the function's are a range of its text
pub filled_from : (f : ℕ → ℕ) (n start : ℕ) (out : List ℕ) → start + length out ≤ n →
    ((k : ℕ) → k < length out → get_or out k 0 ≡ f (start + k)) → out ≡ take (length out) (drop start (text_of f n))
filled_from f n start out inside each =
    let all : out ≡ map (λ k. f (start + k)) (range_with_len 0 (length out)) =
    fill_by_all (λ k. f (start + k)) out (length out) 0 refl each in
    let from : start + 0 ≡ start = omega arith in
    all ∙ shifted f start 0 (length out) ∙ ap (λ k. map f (range_with_len k (length out))) from
    ∙ sym (range-text_of f n start (length out) inside)

-- a range inside a source that is a function lies below the greatest length
pub function_inside : (id start count : ℕ) → IsSomeAnd (function_lengths id) (λ len. start + count ≤ len) → start + count ≤ MAX_LEN
function_inside zero start count h = h
function_inside (suc zero) start count h = h
function_inside (suc (suc id)) start count h = absurd h

-- bytes that are each the function's are a range of the source's text
pub function_read : (id start : ℕ) (out : List ℕ) → IsSomeAnd (function_lengths id) (λ len. start + length out ≤ len) →
    ((k : ℕ) → k < length out → get_or out k 0 ≡ function_byte id (start + k)) → out ≡ take (length out) (drop start (function_texts id))
function_read zero start out inside each = filled_from digit_at MAX_LEN start out inside each
function_read (suc zero) start out inside each = filled_from byte_value_at MAX_LEN start out inside each
function_read (suc (suc id)) start out inside each = absurd inside
