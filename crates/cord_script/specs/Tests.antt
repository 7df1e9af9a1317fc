-- Tests on the words of a statement: names, numerals, paths.
use Rattle.std.specs.Prelude.{ℕ, ◌+◌, ◌*◌, ◌-◌, ◌^◌, List, [], ◌∷◌, length, Bool, true, false, ◌&&◌, ◌||◌, not, ◌==◌, nat_le, nat_lt}
use Rattle.std.specs.Prelude.{Option, Some, None, ℤ, pos, neg_ℤ, if◌then◌else◌, codes}
use Rattle.std.specs.Str.{is_utf8}
use Rattle.cord_script.specs.declared.TheConstants.{MAX_NAME, MAX_PATH}
use Rattle.cord_operands.specs.declared.operands.Function.{Function}
use Rattle.cord_operands.specs.declared.operands.Function.TheVariants.{Digits, Bytes}
use Rattle.cord_operands.specs.declared.operands.Relation.{Relation}
use Rattle.cord_operands.specs.declared.operands.Relation.TheVariants.{Less, Equal, Greater}

-- each byte passes the test
abbrev pub each : (ℕ → Bool) → List ℕ → Bool
each test [] = true
each test (b ∷ bs) = test b && each test bs

abbrev pub is_digit : ℕ → Bool
is_digit c = nat_le 48 c && nat_le c 57

-- an ASCII letter or `_`
abbrev pub is_letter : ℕ → Bool
is_letter c = (nat_le 97 c && nat_le c 122) || (nat_le 65 c && nat_le c 90) || (c == 95)

-- A name has 1 to 32 bytes: ASCII letters, digits and `_`, not beginning with a digit.
abbrev pub is_name : List ℕ → Bool
is_name [] = false
is_name (c ∷ cs) = is_letter c && each (λ d. is_letter d || is_digit d) cs && nat_le (length (c ∷ cs)) MAX_NAME

-- A word begins as a numeral where its first byte is a digit or `-`.
abbrev pub begins_numeral : List ℕ → Bool
begins_numeral [] = false
begins_numeral (c ∷ cs) = is_digit c || (c == 45)

-- the number that decimal digits write after those that write n
abbrev pub number_after : ℕ → List ℕ → ℕ
number_after n [] = n
number_after n (d ∷ ds) = number_after (10 * n + (d - 48)) ds

-- one digit or more
abbrev pub are_digits : List ℕ → Bool
are_digits [] = false
are_digits (d ∷ ds) = is_digit d && each is_digit ds

-- A numeral is an optional `-`, then one digit or more, leading zeros allowed, with a value in i64.
abbrev pub numeral_of : List ℕ → Option ℤ
numeral_of [] = None
numeral_of (c ∷ cs) =
    if c == 45
    then (if are_digits cs && nat_le (number_after 0 cs) (2 ^ 63) then Some (neg_ℤ (pos (number_after 0 cs))) else None)
    else (if are_digits (c ∷ cs) && nat_lt (number_after 0 (c ∷ cs)) (2 ^ 63) then Some (pos (number_after 0 (c ∷ cs))) else None)

-- A path has 1 to 4,095 bytes of UTF-8, none of them 0.
abbrev pub is_path : List ℕ → Bool
is_path path = nat_lt 0 (length path) && nat_le (length path) MAX_PATH && each (λ c. not (c == 0)) path && is_utf8 path

-- the word of a function
abbrev pub function_word : Function → List ℕ
function_word Digits = codes "digits"
function_word Bytes = codes "bytes"

-- the word of a relation
abbrev pub relation_word : Relation → List ℕ
relation_word Less = codes "lt"
relation_word Equal = codes "eq"
relation_word Greater = codes "gt"
