-- Numerals and the digits that write them.
use Rattle.cord_script.proofs.Common.{Some, None, ℕ, List, [], Bool, true, false, refl, sym, ◌∙◌, ap, arith, length, drop, get_or, suc}
use Rattle.cord_script.proofs.Common.{nat_le, lt-leb, is_digit, each, number_after, magnitude_from}
use Rattle.std.proofs.Common.{drop-cons, ◌≡◌, ◌≤◌, ◌<◌, ◌+◌, ◌*◌, ◌-◌, ◌^◌, ◌∷◌, ◌&&◌, if◌then◌else◌}

-- more digits write no smaller number
pub no_smaller : (n : ℕ) (ds : List ℕ) → n ≤ number_after n ds
no_smaller n [] = omega arith
no_smaller n (d ∷ ds) = let r = no_smaller (10 * n + (d - 48)) ds in omega arith

neither_taken : (x y z : Bool) (n : ℕ) → z ≡ false → None ≡ (if (x && y) && z then Some n else None)
neither_taken true true true n h = cc
neither_taken _ _ _ n h = refl

-- one digit more than fits
pub one_too_many : (n d : ℕ) (ds : List ℕ) → 922337203685477580 < n → magnitude_from n (d ∷ ds) ≡ None
one_too_many n d ds h =
    let r = no_smaller (10 * n + (d - 48)) ds in
    let great : 2 ^ 63 < number_after n (d ∷ ds) = omega arith in
    sym (neither_taken (is_digit d) (each is_digit ds) (nat_le (number_after n (d ∷ ds)) (2 ^ 63)) (number_after n (d ∷ ds))
    (lt-leb (number_after n (d ∷ ds)) (2 ^ 63) great))

-- the digits after a place hold one more than fits
pub stops_at : (xs : List ℕ) (i n : ℕ) → i < length xs → 922337203685477580 < n → magnitude_from 0 xs ≡ magnitude_from n (drop i xs) →
    None ≡ magnitude_from 0 xs
stops_at xs i n lt great e = sym (e ∙ ap (magnitude_from n) (drop-cons xs i 0 lt) ∙ one_too_many n (get_or xs i 0) (drop (suc i) xs) great)
