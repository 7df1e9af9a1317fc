-- Counts of texts, one after the other.
use Rattle.cord_lines.proofs.Common.{AreFew, Bool, Counts, List, [], after_ends, ap, arith, begins_char, chars_in, cond, counts_of, ends_in}
use Rattle.cord_lines.proofs.Common.{false, if◌then◌else◌, is_end, length, length-append, plus, sum_by-append, true, without, ℕ, ◌++◌, ◌+◌}
use Rattle.cord_lines.proofs.Common.{◌-◌, ◌<◌, ◌==◌, ◌^◌, ◌∙◌, ◌∷◌, ◌≡◌, ◌≤◌}
use Rattle.std.proofs.lemmas.List.Sums.{count_by-le-length}
use Rattle.cord_lines.proofs.Ends.{ends-append}

-- two are as many in each of the three
pub record AreAlike (a b : Counts) : Type 0 where
  pub bytes : a.bytes ≡ b.bytes
  pub ends : a.ends ≡ b.ends
  pub chars : a.chars ≡ b.chars

abbrev counts : ℕ → ℕ → ℕ → Counts
counts b e c = record { bytes = b; ends = e; chars = c }

pub same_counts : (a b : Counts) → AreAlike a b → a ≡ b
same_counts a b s =
    ap (λ (n : ℕ). counts n a.ends a.chars) s.bytes ∙ ap (λ (n : ℕ). counts b.bytes n a.chars) s.ends ∙ ap (counts b.bytes b.ends) s.chars

pub alike : {a b : Counts} → a ≡ b → AreAlike a b
alike e = record { bytes = ap (λ (c : Counts). c.bytes) e; ends = ap (λ (c : Counts). c.ends) e; chars = ap (λ (c : Counts). c.chars) e }

pub chars-append : (x y : List ℕ) → chars_in (x ++ y) ≡ chars_in x + chars_in y
chars-append x y = sum_by-append (λ (c : ℕ). cond (begins_char c) 1 0) x y

pub counts-append : (x y : List ℕ) → counts_of (x ++ y) ≡ plus (counts_of x) (counts_of y)
counts-append x y = same_counts (counts_of (x ++ y)) (plus (counts_of x) (counts_of y))
    (record { bytes = length-append x y; ends = ends-append x y; chars = chars-append x y })

pub plus_assoc : (a b c : Counts) → plus (plus a b) c ≡ plus a (plus b c)
plus_assoc a b c = same_counts (plus (plus a b) c) (plus a (plus b c)) (omega arith)

-- what others are without the last two of three
pub two_left : (a b c : Counts) → without (without (plus (plus a b) c) b) c ≡ a
two_left a b c = same_counts (without (without (plus (plus a b) c) b) c) a (omega arith)

pub ends-le : (x : List ℕ) → ends_in x ≤ length x
ends-le x = count_by-le-length is_end x

pub chars-le : (x : List ℕ) → chars_in x ≤ length x
chars-le x = count_by-le-length begins_char x

pub after-le : (n : ℕ) (x : List ℕ) → after_ends n x ≤ length x
after-le n [] = omega arith
after-le n (b ∷ x) = step (n == 0) (after-le (if is_end b then n - 1 else n) x)
  where
    step : (none : Bool) → after_ends (if is_end b then n - 1 else n) x ≤ length x →
        (if none then 0 else 1 + after_ends (if is_end b then n - 1 else n) x) ≤ length (b ∷ x)
    step true le = omega arith
    step false le = omega (arith, le)

pub few_bytes : (x : List ℕ) → length x < 2 ^ 64 → AreFew (counts_of x)
few_bytes x lt = omega (arith, ends-le x, chars-le x)
