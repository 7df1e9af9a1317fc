-- The chunks of a text that is gone over.
use Rattle.std.specs.Prelude.{ℕ, ◌-◌, List, take, drop}
use Rattle.cord_c.specs.Shown.{shown}
use Rattle.cord_c.specs.declared.chunks.Chunks.{Chunks}

-- the chunk that is looked at
abbrev pub chunk_of : Chunks → List ℕ
chunk_of c = take c.count (shown c.loan c.room)

-- the bytes after it
abbrev pub left_of : Chunks → List ℕ
left_of c = drop c.next c.text.text

-- the bytes before it
abbrev pub before_of : Chunks → List ℕ
before_of c = take (c.next - c.count) c.text.text
