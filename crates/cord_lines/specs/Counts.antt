-- What is counted in a text: its bytes, the ends of its lines, and the bytes with which characters of UTF-8 begin.
use Rattle.std.specs.Prelude.{ℕ, ◌+◌, ◌<◌, ◌^◌, ◌==◌, Bool, ◌||◌, nat_lt, nat_le, List, length}
use Rattle.std.specs.List.{count_by}
use Rattle.cord_lines.specs.declared.counting.Counts.{Counts}

-- lines end with the byte 10
abbrev pub is_end : ℕ → Bool
is_end b = b == 10

-- the other bytes of a character are 10xxxxxx
abbrev pub begins_char : ℕ → Bool
begins_char b = nat_lt b 128 || nat_le 192 b

-- how many lines end in a text
abbrev pub ends_in : List ℕ → ℕ
ends_in x = count_by is_end x

-- how many characters begin in it
abbrev pub chars_in : List ℕ → ℕ
chars_in x = count_by begins_char x

-- the counts of no bytes
abbrev pub no_counts : Counts
no_counts = record { bytes = 0; ends = 0; chars = 0 }

-- all three
abbrev pub counts_of : List ℕ → Counts
counts_of x = record { bytes = length x; ends = ends_in x; chars = chars_in x }

abbrev pub plus : Counts → Counts → Counts
plus a b = record { bytes = a.bytes + b.bytes; ends = a.ends + b.ends; chars = a.chars + b.chars }

-- they are numbers of the machine
pub record AreFew (c : Counts) : Type 0 where
  pub bytes : c.bytes < 2 ^ 64
  pub ends : c.ends < 2 ^ 64
  pub chars : c.chars < 2 ^ 64

-- they are numbers of two bytes
pub record AreNarrow (c : Counts) : Type 0 where
  pub bytes : c.bytes < 65536
  pub ends : c.ends < 65536
  pub chars : c.chars < 65536
