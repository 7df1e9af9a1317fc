-- Hashes of bytes that come one part after another.
use Rattle.std.proofs.Common.{◌≡◌, ℕ, suc, ◌+◌, ◌-◌, ◌<◌, List, [], ◌∷◌, ◌++◌, refl, ap, sym, arith}
use Rattle.std.specs.Prelude.{replicate}
use Rattle.cord.specs.Hashes.{fnv1a_from, fnv1a_step}

-- after some bytes and then others
pub from_append : (h : ℕ) (x y : List ℕ) → fnv1a_from h (x ++ y) ≡ fnv1a_from (fnv1a_from h x) y
from_append h [] y = refl
from_append h (b ∷ x) y = from_append (fnv1a_step h b) x y

-- after the first byte of a run
pub from_run : (h b n k : ℕ) → k < n → fnv1a_from (fnv1a_step h b) (replicate (n - (k + 1)) b) ≡ fnv1a_from h (replicate (n - k) b)
from_run h b n k lt = let one : n - k ≡ suc (n - (k + 1)) = omega (arith, lt) in
    sym (ap (λ (m : ℕ). fnv1a_from h (replicate m b)) one)
