-- The next word of a line, what bytes of a word stand for, computed as the code does it, and what holds of a table of names.
use Rattle.std.specs.Prelude.{◌<◌, ◌+◌, ◌*◌, ◌-◌, ◌^◌, ◌∷◌, ◌&&◌, ◌==◌, if◌then◌else◌, ◌≡◌}
use Rattle.cord_script.specs.inner.Common.{ℕ, List, [], length, All, nat_le, Option, Some, None, is_digit, each, number_after, Word}
use Rattle.cord_script.specs.inner.Common.{IsBlank, HasWord, true, slice_get, Known, is_name, kind_of}

-- the value of a hexadecimal digit
abbrev pub digit_of : ℕ → Option ℕ
digit_of c = if nat_le 48 c && nat_le c 57 then Some (c - 48) else
    (if nat_le 97 c && nat_le c 102 then Some (c - 87) else (if nat_le 65 c && nat_le c 70 then Some (c - 55) else None))

-- the byte of two hexadecimal digits, and what follows them
abbrev pub byte_of : Option ℕ → Option ℕ → List ℕ → Option (ℕ × List ℕ)
byte_of None low rest = None
byte_of (Some high) None rest = None
byte_of (Some high) (Some low) rest = Some (16 * high + low, rest)

abbrev pub hex_of : List ℕ → Option (ℕ × List ℕ)
hex_of [] = None
hex_of (h ∷ []) = None
hex_of (h ∷ l ∷ rest) = byte_of (digit_of h) (digit_of l) rest

-- the byte of an escape whose `\` is read, and what follows the escape
abbrev pub escape_of : List ℕ → Option (ℕ × List ℕ)
escape_of [] = None
escape_of (c ∷ rest) =
    if c == 92 then Some (92, rest)
    else (if c == 34 then Some (34, rest)
    else (if c == 110 then Some (10, rest)
    else (if c == 116 then Some (9, rest)
    else (if c == 120 then hex_of rest else None))))

-- the byte that the prefix stands for, and what follows it
abbrev pub unit_of : List ℕ → Option (ℕ × List ℕ)
unit_of [] = None
unit_of (c ∷ rest) = if c == 92 then escape_of rest else (if c == 34 then None else Some (c, rest))

-- the number that digits write after those that write n, where it is at most the greatest magnitude
abbrev pub magnitude_from : ℕ → List ℕ → Option ℕ
magnitude_from n ds = if each is_digit ds && nat_le (number_after n ds) (2 ^ 63) then Some (number_after n ds) else None

-- the next word with what follows it, or none, where blanks alone are left
abbrev pub HasNext : List ℕ → Option (Word × List ℕ) → Type 0
HasNext line None = All IsBlank line
HasNext line (Some (word, rest)) = HasWord line word rest × (length rest < length line)

abbrev pub StartsNoBlank : List ℕ → Type 0
StartsNoBlank [] = Unit {0}
StartsNoBlank (c ∷ rest) = ¬ IsBlank c

-- each entry is the first with its name
abbrev pub AreFirst : List Known → Type 0
AreFirst names = (i : ℕ) (entry : Known) → slice_get names i ≡ Some entry → kind_of names entry.name ≡ Some entry.kind

-- each entry's name is a name
abbrev pub AreNames : List Known → Type 0
AreNames [] = Unit {0}
AreNames (entry ∷ names) = (is_name entry.name ≡ true) × AreNames names

-- the names of a table
abbrev pub IsTable : List Known → Type 0
IsTable names = AreFirst names × AreNames names
