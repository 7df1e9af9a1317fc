-- The keys of names.
use Rattle.std.specs.Prelude.{ℕ, ◌+◌, ◌*◌, ◌%◌, ◌/◌, ◌^◌, List, [], ◌∷◌, length, nat_lt, if◌then◌else◌}

-- the number that begins with this one and goes on with these bytes as digits
abbrev pub exact_from : ℕ → List ℕ → ℕ
exact_from prefix [] = prefix
exact_from prefix (b ∷ bytes) = exact_from (prefix * 256 + b) bytes

-- the hash that begins with this one
abbrev pub hash_from : ℕ → List ℕ → ℕ
hash_from hash [] = hash
hash_from hash (b ∷ bytes) = hash_from ((hash * 31 + b) % 2 ^ 56) bytes

-- the key of a name: of a short one its bytes and its length, of any other a hash past those
abbrev pub key_of : List ℕ → ℕ
key_of x = if nat_lt (length x) 8 then exact_from 0 x * 8 + length x else 2 ^ 63 + hash_from 0 x

-- the slot of a key, of 4,096
abbrev pub slot_at : ℕ → ℕ
slot_at key = key * 11400714819323198485 % 2 ^ 64 / 2 ^ 52
