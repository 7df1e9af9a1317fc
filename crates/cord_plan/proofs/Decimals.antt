-- The decimal form of numbers, as it is printed.
use Rattle.std.specs.Prelude.{◌≡◌, ◌<◌, ◌^◌, ◌+◌, ◌-◌, ◌∷◌, ◌++◌}
use Rattle.cord_plan.proofs.Common.{ℕ, zero, suc, length, replicate, refl, sym, ap, ◌∙◌, arith, ℤ, pos, negsuc, w64, to_z, of_z, decimal}
use Rattle.cord_plan.proofs.Common.{signed_decimal}
use mir.Val.{SFits}
use lib.Signed.{mag}
use Rattle.std.proofs.lemmas.Int.{to_z-of_z}
use Rattle.std.specs.Fmt as std
use Rattle.std.proofs.lemmas.Fmt.{decimal_nonempty}
use Rattle.cord_printf.proofs.Figures.{decimal-figures}

above_zero : (n : ℕ) → 0 < n → n < 2 ^ 64 → std.decimal n ≡ decimal n
above_zero n some fits =
    let same = decimal-figures n some fits in
    let long : 1 - length (std.decimal n) ≡ 0 = omega (arith, decimal_nonempty n fits) in
    sym (ap (λ x. replicate (1 - length x) 48 ++ x) same ∙ ap (λ k. replicate k 48 ++ std.decimal n) long)

pub decimal_is : (n : ℕ) → n < 2 ^ 64 → std.decimal n ≡ decimal n
unfolding std.digits
decimal_is zero fits = refl
decimal_is (suc n) fits = above_zero (suc n) (omega arith) fits

signed_same : (z : ℤ) → mag z < 2 ^ 63 → std.signed_decimal z ≡ signed_decimal z
signed_same (pos n) fits = decimal_is n (omega (arith, fits))
signed_same (negsuc n) fits = let e : suc n ≡ n + 1 = omega arith in
    ap (λ x. 45 ∷ x) (ap std.decimal e ∙ decimal_is (n + 1) (omega (arith, fits)))

-- as a register of 64 bits has it
pub signed_decimal_is : (z : ℤ) → SFits w64 z → std.signed_decimal (to_z w64 (of_z w64 z)) ≡ signed_decimal z
signed_decimal_is z fits = ap std.signed_decimal (to_z-of_z w64 z fits) ∙ signed_same z (omega (arith, fits))
