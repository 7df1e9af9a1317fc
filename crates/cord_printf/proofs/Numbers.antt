-- Decimal digits and their numbers.
use Rattle.std.proofs.Common.{◌≡◌, ℕ, ◌+◌, ◌*◌, ◌-◌, ◌<◌, List, [], ◌∷◌, ◌++◌, length, get_or, take, refl, ap, ◌∙◌}
use Rattle.std.proofs.lemmas.List.{take_more}
use Rattle.cord_printf.specs.Pieces.{number_after, number_of}

-- one more digit
pub number_after-push : (n : ℕ) (bs : List ℕ) (b : ℕ) → number_after n (bs ++ b ∷ []) ≡ 10 * number_after n bs + (b - 48)
number_after-push n [] b = refl
number_after-push n (x ∷ bs) b = number_after-push (10 * n + (x - 48)) bs b

-- one more digit of those that are there
pub number_of-take : (bs : List ℕ) (i : ℕ) (d : ℕ) → i < length bs → number_of (take (i + 1) bs) ≡ 10 * number_of (take i bs)
    + (get_or bs i d - 48)
number_of-take bs i d h = ap number_of (take_more bs i d h) ∙ number_after-push 0 (take i bs) (get_or bs i d)
