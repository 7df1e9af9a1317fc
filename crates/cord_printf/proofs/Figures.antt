-- Digits in a base.
use Rattle.std.proofs.Common.{◌≡◌, ℕ, ◌+◌, ◌-◌, ◌/◌, ◌%◌, ◌^◌, ◌<◌, ◌≤◌, List, [], ◌∷◌, ◌++◌, length, map, drop, refl, sym, ap, ◌∙◌}
use Rattle.std.proofs.Common.{append_assoc, arith}
use Rattle.std.proofs.lemmas.List.{map-append, drop-set}
use Rattle.std.proofs.lemmas.Bool.Decides.{nat_tests}
use Rattle.std.proofs.lemmas.Fmt.{decimal-digits_of}
use Rattle.std.proofs.lemmas.Int.Digits.{digits_of_step, length-digits_of_step, length-digits_of-le, all_below_base_digits_of}
use Rattle.std.proofs.lemmas.Int.Digits.{number_digits_of, first_digits_of}
use Rattle.std.specs.Fmt.{decimal}
use Rattle.std.specs.Prelude.{slice_set}
use Rattle.std.specs.Int.Digits.{digits_of, AllBelowBase}
use Rattle.cord_printf.specs.declared.pieces.Radix.{Radix}
use Rattle.cord_printf.specs.declared.pieces.Radix.TheVariants.{Decimal, Octal, LowerHex, UpperHex}
use Rattle.cord_printf.specs.PieceText.{base_of, figure}
use Rattle.cord_printf.specs.FormatLaws.{DigitsWriteNumbers}

pub base_least : (r : Radix) → 8 ≤ base_of r
base_least Decimal = omega arith
base_least Octal = omega arith
base_least LowerHex = omega arith
base_least UpperHex = omega arith

pub digits_room : (r : Radix) (n : ℕ) → n < 2 ^ 64 → length (digits_of (base_of r) n) ≤ 22
digits_room Decimal n h = length-digits_of-le 10 22 n (omega arith) (omega arith)
digits_room Octal n h = length-digits_of-le 8 22 n (omega arith) (omega arith)
digits_room LowerHex n h = length-digits_of-le 16 22 n (omega arith) (omega arith)
digits_room UpperHex n h = length-digits_of-le 16 22 n (omega arith) (omega arith)

decimal_figure : (d : ℕ) → d < 10 → figure Decimal d ≡ 48 + d
decimal_figure d h = grind (arith, nat_tests)

decimal_figures : (ds : List ℕ) → AllBelowBase 10 ds → map (figure Decimal) ds ≡ map (λ d. 48 + d) ds
decimal_figures [] h = refl
decimal_figures (d ∷ ds) h = let one = decimal_figure d h.0 in let rest = decimal_figures ds h.1 in cc (one, rest)

-- a number above 0 is printed by std's decimal digits
pub decimal-figures : (n : ℕ) → 0 < n → n < 2 ^ 64 → map (figure Decimal) (digits_of 10 n) ≡ decimal n
decimal-figures n some fits = decimal_figures (digits_of 10 n) (all_below_base_digits_of 10 n (omega arith))
    ∙ sym (decimal-digits_of n some fits)

-- one digit is written in front
figures_step : (r : Radix) (n s : ℕ) (bytes all : List ℕ) → 0 < n → s < length bytes → all ≡ map (figure r) (digits_of (base_of r) n)
    ++ drop (s + 1) bytes
    → all ≡ map (figure r) (digits_of (base_of r) (n / base_of r)) ++ drop s (slice_set bytes s (figure r (n % base_of r)))
figures_step r n s bytes all some room h =
    let b : ℕ = base_of r in
    let f : ℕ → ℕ = figure r in
    let least = base_least r in
    let last : map f (digits_of b n) ≡ map f (digits_of b (n / b)) ++ f (n % b) ∷ [] =
    ap (map f) (digits_of_step b n (omega arith) some) ∙ map-append f (digits_of b (n / b)) (n % b ∷ []) in
    h ∙ ap (λ x. x ++ drop (s + 1) bytes) last ∙ append_assoc (map f (digits_of b (n / b))) (f (n % b) ∷ []) (drop (s + 1) bytes)
    ∙ ap (λ x. map f (digits_of b (n / b)) ++ x) (sym (drop-set bytes s (f (n % b)) room))

-- the same with the place of the written digits one lower
pub figures_before : (r : Radix) (n b v start : ℕ) (bytes all : List ℕ) → b ≡ base_of r → v ≡ figure r (n % b) → 0 < n →
    start ≤ length bytes → length (digits_of (base_of r) n) ≤ start
    → all ≡ map (figure r) (digits_of (base_of r) n) ++ drop start bytes
    → record {
      written : all ≡ map (figure r) (digits_of (base_of r) (n / b)) ++ drop (start - 1) (slice_set bytes (start - 1) v);
      room : length (digits_of (base_of r) (n / b)) ≤ start - 1;
    }
figures_before r n b v start bytes all base shown some within room h =
    let least = base_least r in
    let shorter = length-digits_of_step (base_of r) n (omega arith) some in
    let back : start ≡ (start - 1) + 1 = omega arith in
    let step = figures_step r n (start - 1) bytes all some (omega arith)
    (h ∙ ap (λ x. map (figure r) (digits_of (base_of r) n) ++ drop x bytes) back) in
    record {
      written = rw (shown, base) step;
      room = rw base (omega arith);
    }

-- a number above 0 has one digit more than what is left without its last
pub digits_shorter : (r : Radix) (n : ℕ) → 0 < n → length (digits_of (base_of r) n) ≡ length (digits_of (base_of r) (n / base_of r)) + 1
digits_shorter r n some = let least = base_least r in length-digits_of_step (base_of r) n (omega arith) some

-- the digits of a number write it
pub numeral : DigitsWriteNumbers
numeral r n =
    let least = base_least r in
    record {
      value = number_digits_of (base_of r) n (omega arith);
      below = all_below_base_digits_of (base_of r) n (omega arith);
      first = λ some. first_digits_of (base_of r) n (omega arith) some;
    }
