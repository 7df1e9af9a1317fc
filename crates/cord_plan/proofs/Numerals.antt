-- The digits of a number that is too great to be counted down to, and the text of a plan that shows it.
use Rattle.std.specs.Prelude.{◌≡◌, ◌<◌, ◌∷◌, ◌++◌, ◌/◌, ◌%◌, ◌-◌}
use Rattle.cord_plan.proofs.Common.{ℕ, List, [], length, map, refl, ap, ◌∙◌, arith, replicate, codes, numeral, Expr, name, run, cat, sub}
use Rattle.cord_plan.proofs.Common.{nothing, member, Operation, Build, Measure, Write, Joined, Literal, decimal, spaced, called}
use Rattle.cord_plan.proofs.Common.{text_of_plan}
use Rattle.std.specs.Int.Digits.{digits_of}
use Rattle.std.proofs.lemmas.Int.Digits.{digits_of_step}
use Rattle.cord_printf.specs.declared.pieces.Radix.TheVariants.{Decimal}
use Rattle.cord_printf.specs.PieceText.{figure}

-- one digit more
ends_with : (n : ℕ) (ds : List ℕ) → 0 < n → digits_of 10 (n / 10) ≡ ds → digits_of 10 n ≡ ds ++ n % 10 ∷ []
ends_with n ds some prefix = digits_of_step 10 n (omega arith) some ∙ ap (λ (x : List ℕ). x ++ n % 10 ∷ []) prefix

-- digits as they are printed
abbrev pub figures : List ℕ → List ℕ
figures ds = let text_of_plan = map (λ d. figure Decimal d) ds in replicate (1 - length text_of_plan) 48 ++ text_of_plan

figures_of : (n : ℕ) (ds : List ℕ) → digits_of 10 n ≡ ds → decimal n ≡ figures ds
figures_of n ds e = ap figures e

-- the greatest length of a cord
pub greatest_length : decimal 1099511627775 ≡ codes "1099511627775"
greatest_length =
    let d4 : digits_of 10 1099 ≡ 1 ∷ 0 ∷ 9 ∷ 9 ∷ [] = refl in
    let d5 : digits_of 10 10995 ≡ 1 ∷ 0 ∷ 9 ∷ 9 ∷ 5 ∷ [] = ends_with 10995 (1 ∷ 0 ∷ 9 ∷ 9 ∷ []) (omega arith) d4 in
    let d6 : digits_of 10 109951 ≡ 1 ∷ 0 ∷ 9 ∷ 9 ∷ 5 ∷ 1 ∷ [] = ends_with 109951 (1 ∷ 0 ∷ 9 ∷ 9 ∷ 5 ∷ []) (omega arith) d5 in
    let d7 : digits_of 10 1099511 ≡ 1 ∷ 0 ∷ 9 ∷ 9 ∷ 5 ∷ 1 ∷ 1 ∷ [] = ends_with 1099511 (1 ∷ 0 ∷ 9 ∷ 9 ∷ 5 ∷ 1 ∷ []) (omega arith) d6 in
    let d8 : digits_of 10 10995116 ≡ 1 ∷ 0 ∷ 9 ∷ 9 ∷ 5 ∷ 1 ∷ 1 ∷ 6 ∷ [] =
    ends_with 10995116 (1 ∷ 0 ∷ 9 ∷ 9 ∷ 5 ∷ 1 ∷ 1 ∷ []) (omega arith) d7 in
    let d9 : digits_of 10 109951162 ≡ 1 ∷ 0 ∷ 9 ∷ 9 ∷ 5 ∷ 1 ∷ 1 ∷ 6 ∷ 2 ∷ [] =
    ends_with 109951162 (1 ∷ 0 ∷ 9 ∷ 9 ∷ 5 ∷ 1 ∷ 1 ∷ 6 ∷ []) (omega arith) d8 in
    let d10 : digits_of 10 1099511627 ≡ 1 ∷ 0 ∷ 9 ∷ 9 ∷ 5 ∷ 1 ∷ 1 ∷ 6 ∷ 2 ∷ 7 ∷ [] =
    ends_with 1099511627 (1 ∷ 0 ∷ 9 ∷ 9 ∷ 5 ∷ 1 ∷ 1 ∷ 6 ∷ 2 ∷ []) (omega arith) d9 in
    let d11 : digits_of 10 10995116277 ≡ 1 ∷ 0 ∷ 9 ∷ 9 ∷ 5 ∷ 1 ∷ 1 ∷ 6 ∷ 2 ∷ 7 ∷ 7 ∷ [] =
    ends_with 10995116277 (1 ∷ 0 ∷ 9 ∷ 9 ∷ 5 ∷ 1 ∷ 1 ∷ 6 ∷ 2 ∷ 7 ∷ []) (omega arith) d10 in
    let d12 : digits_of 10 109951162777 ≡ 1 ∷ 0 ∷ 9 ∷ 9 ∷ 5 ∷ 1 ∷ 1 ∷ 6 ∷ 2 ∷ 7 ∷ 7 ∷ 7 ∷ [] =
    ends_with 109951162777 (1 ∷ 0 ∷ 9 ∷ 9 ∷ 5 ∷ 1 ∷ 1 ∷ 6 ∷ 2 ∷ 7 ∷ 7 ∷ []) (omega arith) d11 in
    let d13 : digits_of 10 1099511627775 ≡ 1 ∷ 0 ∷ 9 ∷ 9 ∷ 5 ∷ 1 ∷ 1 ∷ 6 ∷ 2 ∷ 7 ∷ 7 ∷ 7 ∷ 5 ∷ [] =
    ends_with 1099511627775 (1 ∷ 0 ∷ 9 ∷ 9 ∷ 5 ∷ 1 ∷ 1 ∷ 6 ∷ 2 ∷ 7 ∷ 7 ∷ 7 ∷ []) (omega arith) d12 in
    figures_of 1099511627775 (1 ∷ 0 ∷ 9 ∷ 9 ∷ 5 ∷ 1 ∷ 1 ∷ 6 ∷ 2 ∷ 7 ∷ 7 ∷ 7 ∷ 5 ∷ []) d13

-- a plan whose first line computes the length of n bytes, in parts that don't depend on n
abbrev pub zeros : ℕ → Expr
zeros n = run (numeral 0) (numeral n)

abbrev pub joined : ℕ → Expr
joined n = cat (member (zeros n) (member (name (codes "b")) nothing))

abbrev pub operations_with : ℕ → List Operation
operations_with n =
    Measure 1 (codes "a") (Joined (zeros n))
    ∷ Build 2 (codes "b") (Literal (codes "b"))
    ∷ Measure 3 (codes "t") (Joined (joined n))
    ∷ Measure 4 (codes "z") (Joined (sub (joined n) (numeral 0) (numeral 1)))
    ∷ Write 5 (name (codes "b"))
    ∷ []

-- its text, with these digits for n
abbrev pub zeros_printed : List ℕ → List ℕ
zeros_printed digits = called (codes "run") (spaced (codes "0" ∷ digits ∷ []))

abbrev pub joined_printed : List ℕ → List ℕ
joined_printed digits = called (codes "cat") (zeros_printed digits ++ codes " b")

abbrev pub lines_printed : List (List ℕ) → List ℕ
lines_printed [] = []
lines_printed (line ∷ rest) = line ++ 10 ∷ lines_printed rest

abbrev pub text_with : List ℕ → List ℕ
text_with digits = lines_printed (
    spaced (codes "1" ∷ codes "measure" ∷ codes "a" ∷ zeros_printed digits ∷ [])
    ∷ codes "2 build b literal(1)"
    ∷ spaced (codes "3" ∷ codes "measure" ∷ codes "t" ∷ joined_printed digits ∷ [])
    ∷ spaced (codes "4" ∷ codes "measure" ∷ codes "z" ∷ called (codes "sub") (spaced (joined_printed digits ∷ codes "0" ∷ codes "1" ∷ []))
    ∷ [])
    ∷ codes "5 write b"
    ∷ [])

shows : (n : ℕ) → text_of_plan (operations_with n) ≡ text_with (decimal n)
shows n = refl

pub unread_cat_shows : (operations : List Operation) (n : ℕ) (digits : List ℕ) → operations ≡ operations_with n → decimal n ≡ digits →
    text_of_plan operations ≡ text_with digits
unread_cat_shows operations n digits same written = ap text_of_plan same ∙ shows n ∙ ap text_with written
