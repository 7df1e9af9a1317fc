-- Where positions stand, after the positions of cords.
use Rattle.std.specs.Prelude.{ℕ, ◌+◌, List, length, Option, Some, None, if◌then◌else◌, nat_lt, slice_get}
use Rattle.cord_c.specs.declared.position.Position.{Position}

-- an index where a text has a byte, or none
abbrev pub index_in : List ℕ → ℕ → Option ℕ
index_in bytes i = if nat_lt i (length bytes) then Some i else None

-- the next index: none at the last byte, and none stays none
abbrev pub next_in : List ℕ → Option ℕ → Option ℕ
next_in bytes None = None
next_in bytes (Some i) = index_in bytes (i + 1)

-- the bytes of a position's cord
abbrev pub bytes_of : Position → List ℕ
bytes_of p = p.text.text

-- the index where a position stands, if it stands in what it has a copy of
abbrev pub index_of : Position → Option ℕ
index_of p = if nat_lt p.at p.count then Some (p.start + p.at) else None

-- the byte at an index, none where there is none
abbrev pub byte_in : List ℕ → Option ℕ → Option ℕ
byte_in bytes None = None
byte_in bytes (Some i) = slice_get bytes i

-- the byte where it stands
abbrev pub byte_of : Position → Option ℕ
byte_of p = byte_in p.text.text (index_of p)
