-- What stands at a place of a list, and after it.
use Rattle.std.proofs.Common.{◌≡◌, ℕ, zero, suc, ◌+◌, ◌<◌, List, [], ◌∷◌, ◌++◌, length, drop, Some, None, ap, refl, ◌∙◌, arith}
use Rattle.std.specs.Prelude.{slice_get}

module _ {X : Type 0} where
  -- what stands at a place, and after it
  pub at_here : (xs : List X) (p : ℕ) (x : X) (rest : List X) → drop p xs ≡ x ∷ rest → slice_get xs p ≡ Some x
  at_here [] zero x rest e = cc
  at_here [] (suc p) x rest e = cc
  at_here (y ∷ ys) zero x rest e = ap (λ (zs : List X). slice_get zs 0) e
  at_here (y ∷ ys) (suc p) x rest e = at_here ys p x rest e

  pub next_here : (xs : List X) (p : ℕ) (x : X) (rest : List X) → drop p xs ≡ x ∷ rest → drop (p + 1) xs ≡ rest
  next_here [] zero x rest e = cc
  next_here [] (suc p) x rest e = cc
  next_here (y ∷ ys) zero x rest e = ap (λ (zs : List X). drop 1 zs) e
  next_here (y ∷ ys) (suc p) x rest e = let more : suc p + 1 ≡ suc (p + 1) = omega arith in
      ap (λ (n : ℕ). drop n (y ∷ ys)) more ∙ next_here ys p x rest e

  pub beyond : (xs : List X) (p : ℕ) (prefix rest : List X) → drop p xs ≡ prefix ++ rest → drop (p + length prefix) xs ≡ rest
  beyond xs p [] rest e = let same : p + 0 ≡ p = omega arith in ap (λ (n : ℕ). drop n xs) same ∙ e
  beyond xs p (x ∷ prefix) rest e =
      let same : p + suc (length prefix) ≡ (p + 1) + length prefix = omega arith in
      ap (λ (n : ℕ). drop n xs) same ∙ beyond xs (p + 1) prefix rest (next_here xs p x (prefix ++ rest) e)

  pub none_after : (xs : List X) (p : ℕ) → drop p xs ≡ [] → slice_get xs p ≡ None
  none_after [] zero e = refl
  none_after [] (suc p) e = refl
  none_after (x ∷ xs) zero e = cc
  none_after (x ∷ xs) (suc p) e = none_after xs p e

  -- a place within the list
  pub some_here : (xs : List X) (p : ℕ) → p < length xs → (x : X) × (rest : List X) × (drop p xs ≡ x ∷ rest)
  some_here [] p lt = absurd (omega arith)
  some_here (x ∷ xs) zero lt = (x, xs, refl)
  some_here (x ∷ xs) (suc p) lt = some_here xs p (omega arith)
