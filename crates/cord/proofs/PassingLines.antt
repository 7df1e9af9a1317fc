-- Which line comes after some ends of lines.
use Rattle.std.proofs.Common.{◌≡◌, ℕ, zero, suc, ◌+◌, ◌<◌, Bool, true, false, cond, Some, List, [], ◌∷◌, ◌++◌, length, take, drop, map}
use Rattle.std.proofs.Common.{refl, ap, sym, ◌∙◌, arith, length-append}
use Rattle.std.proofs.Math.Seq.{drop-cons, drop-append_seam}
use Rattle.std.specs.Prelude.{◌==◌, slice_get}
use Rattle.std.specs.List.{count_by}
use Rattle.std.proofs.lemmas.List.Sums.{sum_by-append}
use Rattle.std.proofs.lemmas.List.{drop-map, drop-drop, append_assoc, take-append-drop, length-take-le}
use Rattle.std.proofs.lemmas.Option.{get_or_from_slice_get}
use Rattle.cord.specs.Lines.{led_by, lines, bare, bare_lines}

-- how many lines end in some bytes
abbrev pub ends : List ℕ → ℕ
ends x = count_by (λ own. own == 10) x

-- a byte more before the first line changes none after it
drop_led : (n b : ℕ) (ls : List (List ℕ)) → drop (suc n) (led_by b ls) ≡ drop (suc n) ls
drop_led zero b [] = refl
drop_led (suc n) b [] = refl
drop_led n b (l ∷ ls) = refl

passed : (x y : List ℕ) (n : ℕ) → drop (suc (ends x + n)) (lines (x ++ y)) ≡ drop (suc n) (lines y)
passed [] y n = let none : ends [] + n ≡ n = omega arith in rw none refl
passed (b ∷ x) y n = step (b == 10) refl (passed x y n)
  where
    all : ends (b ∷ x) ≡ ends (b ∷ []) + ends x
    all = sum_by-append (λ c. cond (c == 10) 1 0) (b ∷ []) x

    first : ends (b ∷ []) ≡ 0 + cond (b == 10) 1 0
    first = refl

    step : (is : Bool) → (b == 10) ≡ is → drop (suc (ends x + n)) (lines (x ++ y)) ≡ drop (suc n) (lines y) →
        drop (suc (ends (b ∷ x) + n)) (lines ((b ∷ x) ++ y)) ≡ drop (suc n) (lines y)
    step true h later =
        let here : ends (b ∷ []) ≡ 1 = rw (first, h) refl in
        let one : ends (b ∷ x) + n ≡ suc (ends x + n) = omega (arith, all, here) in
        let cut : lines ((b ∷ x) ++ y) ≡ (b ∷ []) ∷ lines (x ++ y) = rw h refl in
        rw (one, cut) later
    step false h later =
        let here : ends (b ∷ []) ≡ 0 = rw (first, h) refl in
        let none : ends (b ∷ x) + n ≡ ends x + n = omega (arith, all, here) in
        let cut : lines ((b ∷ x) ++ y) ≡ led_by b (lines (x ++ y)) = rw h refl in
        rw (none, cut) (drop_led (ends x + n) b (lines (x ++ y)) ∙ later)

-- the lines after the ends in x and some more are those after the latter in what follows x
passed_bare : (x y : List ℕ) (n m : ℕ) → ends x + n ≡ m → drop (m + 1) (bare_lines (x ++ y)) ≡ drop (n + 1) (bare_lines y)
passed_bare x y n m e =
    let one : m + 1 ≡ suc (ends x + n) = omega (arith, e) in
    let two : n + 1 ≡ suc n = omega arith in
    rw (one, two) (drop-map bare (suc (ends x + n)) (lines (x ++ y)) ∙ ap (map bare) (passed x y n) ∙ sym (drop-map bare (suc n) (lines y)))

-- what is left begins at a place, and line n comes after as many ends of lines in it, and one more
pub record IsBefore (x : List ℕ) (n : ℕ) (chunks : List ℕ) (left start : ℕ) : Type 0 where
  pub here : chunks ≡ drop start x
  pub inside : start + length chunks ≡ length x
  pub lines : drop (left + 1) (bare_lines chunks) ≡ drop n (bare_lines x)

module _ (x : List ℕ) (n : ℕ) (chunks : List ℕ) (left start : ℕ) (is : IsBefore x n chunks left start) where
  module _ (c new : List ℕ) (parts : chunks ≡ c ++ new) where
    -- the end isn't in the next chunk
    pub after_chunk : (less : ℕ) → ends c + less ≡ left → IsBefore x n new less (start + length c)
    after_chunk less e = record {
      here = sym (drop-append_seam c new) ∙ ap (drop (length c)) (sym parts ∙ is.here) ∙ drop-drop (length c) start x;
      inside = omega (arith, is.inside, ap (λ (y : List ℕ). length y) parts, length-append c new);
      lines = sym (passed_bare c new less left e) ∙ ap (λ (y : List ℕ). drop (left + 1) (bare_lines y)) (sym parts) ∙ is.lines;
    }

    -- it is in the next chunk
    module _ (q : ℕ) (lt : q < length c) (at : slice_get c q ≡ Some 10) (before : ends (take q c) ≡ left) where
      abbrev rest : List ℕ
      rest = drop (suc q) c ++ new

      cut : chunks ≡ take q c ++ (10 ∷ rest)
      cut =
          let end : drop q c ≡ 10 ∷ drop (suc q) c =
          drop-cons c q 0 lt ∙ ap (λ (b : ℕ). b ∷ drop (suc q) c) (get_or_from_slice_get c q 10 0 at) in
          parts ∙ ap (λ (y : List ℕ). y ++ new) (sym (take-append-drop q c) ∙ ap (λ (y : List ℕ). take q c ++ y) end)
          ∙ append_assoc (take q c) (10 ∷ drop (suc q) c) new

      after : drop (start + q + 1) x ≡ rest
      after =
          let count : length (take q c) ≡ q = length-take-le q c (omega (arith, lt)) in
          let sum : start + q + 1 ≡ start + length (take q c) + 1 = omega (arith, count) in
          ap (λ (k : ℕ). drop k x) sum ∙ sym (drop-drop 1 (start + length (take q c)) x)
          ∙ ap (drop 1) (sym (drop-drop (length (take q c)) start x) ∙ ap (drop (length (take q c))) (sym is.here ∙ cut)
          ∙ drop-append_seam (take q c) (10 ∷ rest))

      pub at_end : bare_lines (drop (start + q + 1) x) ≡ drop n (bare_lines x)
      at_end =
          let all : ends (take q c) + 0 ≡ left = omega (arith, before) in
          ap bare_lines after ∙ sym (passed_bare (take q c) (10 ∷ rest) 0 left all)
          ∙ ap (λ (y : List ℕ). drop (left + 1) (bare_lines y)) (sym cut) ∙ is.lines
