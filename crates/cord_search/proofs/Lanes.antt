-- Bytes that are compared many at a time.
use Rattle.cord_search.proofs.Common.{List, [], ap, arith, eqb-true, false, length, map, refl, sym, true, w8, ℕ, ◌∙◌, ◌∷◌, ◌≡◌}
use Rattle.std.proofs.Common.{cond, eqb, ◌%◌, ◌^◌}
use Rattle.std.proofs.lemmas.Bool.{not-false, not-true}
use Rattle.std.proofs.lemmas.Simd.{length-zip2, mask_l-mod, tops_compared}
use Rattle.std.specs.Prelude.{nat_eq, not}
use Rattle.std.specs.Simd.Lanes.{mask_l, top, zip2}

-- no bit is set where the bytes are the same ones
same_lanes : (xs ys : List ℕ) → length xs ≡ length ys → mask_l (zip2 (λ a b. not (eqb a b)) xs ys) ≡ 0 → xs ≡ ys
same_lanes [] [] l h = refl
same_lanes [] (y ∷ ys) l h = absurd (omega arith)
same_lanes (x ∷ xs) [] l h = absurd (omega arith)
same_lanes (x ∷ xs) (y ∷ ys) l h =
    elim (eqb x y) as (λ v. eqb x y ≡ v → x ∷ xs ≡ y ∷ ys) [
      | true ↦ λ e.
          let rest = rw e at h in
          let one : x ≡ y = eqb-true x y e in
          let two : xs ≡ ys = same_lanes xs ys (omega arith) (omega (arith, rest)) in
          cc (one, two)
      | false ↦ λ e. let rest = rw e at h in absurd (omega (arith, rest))
    ] refl

-- 64 bytes beside 64 others
pub same_bytes : (xs ys : List ℕ) → length xs ≡ 64 → length ys ≡ 64 →
    not (not (nat_eq (mask_l (map (top 7) (zip2 (λ a b. cond (not (eqb a b)) 255 0) xs ys)) % 2 ^ 64) 0)) ≡ true → xs ≡ ys
same_bytes xs ys l k h =
    let f = λ (a b : ℕ). not (eqb a b) in
    let long = length-zip2 f xs ys (omega (arith, l, k)) in
    let mask = mask_l (map (top 7) (zip2 (λ a b. cond (f a b) 255 0) xs ys)) % 2 ^ 64 in
    let none : mask ≡ 0 = eqb-true mask 0 (not-false (nat_eq mask 0) (not-true (not (nat_eq mask 0)) h)) in
    same_lanes xs ys (omega (arith, l, k)) (sym (ap (λ ms. mask_l ms % 2 ^ 64) (tops_compared w8 f xs ys)
    ∙ mask_l-mod (zip2 f xs ys) 64 (omega (arith, long, l))) ∙ none)
