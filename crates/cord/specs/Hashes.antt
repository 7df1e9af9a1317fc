-- FNV-1a of 64 bits, the hash of Fowler, Noll and Vo.
use Rattle.std.specs.Prelude.{ℕ, ◌*◌, ◌^◌, ◌%◌, List, [], ◌∷◌, bit_xor}

-- the hash after one byte more
abbrev pub fnv1a_step : ℕ → ℕ → ℕ
fnv1a_step h b = (bit_xor h b * 1099511628211) % 2 ^ 64

-- and after some bytes
abbrev pub fnv1a_from : ℕ → List ℕ → ℕ
fnv1a_from h [] = h
fnv1a_from h (b ∷ x) = fnv1a_from (fnv1a_step h b) x

-- the hash of all of them
abbrev pub fnv1a : List ℕ → ℕ
fnv1a x = fnv1a_from 14695981039346656037 x
