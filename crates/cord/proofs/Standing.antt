-- Bytes that stand at a place of a text.
use Rattle.std.proofs.Common.{◌≡◌, ℕ, suc, ◌+◌, ◌-◌, ◌<◌, ◌≤◌, List, [], ◌∷◌, ◌++◌, length, take, drop, Some, refl, ◌∙◌, sym, ap, arith}
use Rattle.std.proofs.Common.{append-nil, length-append, length-drop}
use Rattle.std.specs.Prelude.{slice_get}
use Rattle.std.proofs.lemmas.List.{drop_more, take-append-drop, nil_from_length}
use Rattle.std.proofs.lemmas.Option.{slice_get_within, get_or_from_slice_get}
use Rattle.cord_core.proofs.Places.{beyond}
use Rattle.cord.specs.Places.{BeginsWith, EndsWith}

-- a byte at a place, and what is after it
from_byte : (x : List ℕ) (p b : ℕ) → slice_get x p ≡ Some b → drop p x ≡ b ∷ drop (p + 1) x
from_byte x p b e = drop_more x p b (slice_get_within x p b e) ∙ ap (λ (a : ℕ). a ∷ drop (p + 1) x) (get_or_from_slice_get x p b b e)

-- a text has some bytes at a place where it has each of them
pub stand_by_each : (x s : List ℕ) (p : ℕ) → ((k : ℕ) → k < length s → slice_get x (p + k) ≡ slice_get s k) → BeginsWith (drop p x) s
stand_by_each x [] p each = (drop p x, refl)
stand_by_each x (b ∷ s) p each =
    let here : p + 0 ≡ p = omega arith in
    let first : slice_get x p ≡ Some b = ap (λ (n : ℕ). slice_get x n) (sym here) ∙ each 0 (omega arith) in
    let more = stand_by_each x s (p + 1) (λ k lt. let e : (p + 1) + k ≡ p + suc k = omega arith in
    ap (λ (n : ℕ). slice_get x n) e ∙ each (suc k) (omega (arith, lt))) in
    (more.0, from_byte x p b first ∙ ap (λ (y : List ℕ). b ∷ y) more.1)

-- what stands as far before the end as it is long is the end
pub ends_there : (x s : List ℕ) → length s ≤ length x → BeginsWith (drop (length x - length s) x) s → EndsWith x s
ends_there x s le (rest, e) = (
  take (length x - length s) x,
  sym (take-append-drop (length x - length s) x)
      ∙ ap (λ (y : List ℕ). take (length x - length s) x ++ y) whole,
)
  where
    none : rest ≡ []
    none = nil_from_length rest (let l : length (drop (length x - length s) x) ≡ length (s ++ rest) = ap (λ (y : List ℕ). length y) e in
        omega (arith, l, le, length-drop (length x - length s) x, length-append s rest))

    whole : drop (length x - length s) x ≡ s
    whole = e ∙ ap (λ (y : List ℕ). s ++ y) none ∙ append-nil s

-- and the end stands there
pub end_stands : (x s : List ℕ) → EndsWith x s → BeginsWith (drop (length x - length s) x) s
end_stands x s (prefix, e) = ([], at ∙ sym (append-nil s))
  where
    place : length x - length s ≡ 0 + length prefix
    place = let l : length x ≡ length (prefix ++ s) = ap (λ (y : List ℕ). length y) e in omega (arith, l, length-append prefix s)

    at : drop (length x - length s) x ≡ s
    at = ap (λ (n : ℕ). drop n x) place ∙ beyond x 0 prefix s e
