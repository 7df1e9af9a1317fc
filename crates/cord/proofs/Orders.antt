-- The order of texts is that of their lists of bytes.
use Rattle.std.proofs.Common.{◌≡◌, ◌==◌, ℕ, ℤ, pos, negsuc, Bool, true, false, cond, List, [], ◌∷◌, refl, arith}
use mir.Val.{to_z, of_z}
use mir.Syntax.{w8}
use Rattle.std.specs.Prelude.{nat_lt, if◌then◌else◌}
use Rattle.std.specs.Ordering.{nat_cmp, int_cmp, ordering_then}
use Rattle.std.specs.declared.cmp.Ordering.{Ordering}
use Rattle.std.specs.declared.cmp.Ordering.TheVariants.{Less, Equal, Greater}
use Rattle.std.specs.Cmp.Lexicographic.{slice_cmp}
use Rattle.std.proofs.lemmas.Bool.Decides.{nat_tests}
use Rattle.cord_core.specs.Texts.{order}

-- a sign as it is handed to a comparison
abbrev passed : ℤ → ℤ
passed z = to_z w8 (of_z w8 z)

one_byte : (v w e : Bool) (o : ℤ) (s : Ordering) → (w ≡ true → e ≡ false) → (v ≡ false → w ≡ false → e ≡ true) →
    int_cmp (passed o) (pos 0) ≡ s → int_cmp (passed (if v then negsuc 0 else if w then pos 1 else o)) (pos 0)
    ≡ ordering_then (cond v Less (cond e Equal Greater)) s
one_byte true w e o s apart same rest = refl
one_byte false true true o s apart same rest = let e : true ≡ false = apart refl in cc
one_byte false true false o s apart same rest = refl
one_byte false false true o s apart same rest = rest
one_byte false false false o s apart same rest = let e : false ≡ true = same refl refl in cc

-- the sign that `order` answers, seen as an `Ordering`
pub order_is_cmp : (x y : List ℕ) → int_cmp (passed (order x y)) (pos 0) ≡ slice_cmp nat_cmp x y
order_is_cmp [] [] = refl
order_is_cmp [] (c ∷ y) = refl
order_is_cmp (b ∷ x) [] = refl
order_is_cmp (b ∷ x) (c ∷ y) = one_byte (nat_lt b c) (nat_lt c b) (b == c) (order x y) (slice_cmp nat_cmp x y)
    (λ h. grind (arith, nat_tests)) (λ h k. grind (arith, nat_tests)) (order_is_cmp x y)
