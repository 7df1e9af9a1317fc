-- What a position is, how its moves change it, and how many visits they take.
use Rattle.std.specs.Prelude.{◌≡◌, ℕ, ◌+◌, ◌-◌, ◌≤◌, nat_lt, if◌then◌else◌, Option, Some, None, slice_get, zero, suc, ⊤}
use Rattle.cord_io.specs.Table.{Table}
use Rattle.cord_node.specs.declared.Node.{Node}
use Rattle.cord_node.specs.Tree.{len_of}
use Rattle.cord_node.specs.Occurrences.{size, level, preorder, shared_level}
use Rattle.cord_core.specs.Cord.{text_len, bytes_of}

-- what is seen of a position: its cord, an index below the cord's length or none, and the nodes visited so far
pub record Standing : Type 0 where
  pub cord : Option Node
  pub index : Option ℕ
  pub visits : ℕ

-- an index, where it is below the length of the cord
abbrev pub index_at : Option Node → ℕ → Option ℕ
index_at c i = if nat_lt i (text_len c) then Some i else None

-- the next index: none at the last place, and none stays none
abbrev pub next_index : Option Node → Option ℕ → Option ℕ
next_index c None = None
next_index c (Some i) = index_at c (i + 1)

-- the previous index: none at 0, and none stays none
abbrev pub prev_index : Option ℕ → Option ℕ
prev_index None = None
prev_index (Some zero) = None
prev_index (Some (suc i)) = Some i

-- an index to which one moves: none past the end, and none stays none
abbrev pub moved_index : Option Node → Option ℕ → ℕ → Option ℕ
moved_index c None j = None
moved_index c (Some i) j = index_at c j

-- the byte of the cord's text over a table at the index
abbrev pub IsByteAt : Table → Option Node → Option ℕ → ℕ → Type 0
IsByteAt t c None b = ⊥
IsByteAt t c (Some i) b = slice_get (bytes_of t c) i ≡ Some b

-- two indices lie in one part of the cord: one with the same preorder number
abbrev pub IsOnePart : Option Node → Option ℕ → Option ℕ → Type 0
IsOnePart (Some n) (Some i) (Some j) = preorder n i ≡ preorder n j
IsOnePart _ _ _ = ⊥

-- the part that holds the second index comes no earlier in preorder than that of the first
abbrev pub IsNoEarlier : Option Node → Option ℕ → Option ℕ → Type 0
IsNoEarlier (Some n) (Some i) (Some j) = preorder n i ≤ preorder n j
IsNoEarlier _ _ _ = ⊤

-- the visits of setting a position: one more than the level of the part that holds the index, and 0 past the end
abbrev pub set_visits : Option Node → ℕ → ℕ
set_visits None i = 0
set_visits (Some n) i = if nat_lt i (len_of n) then level n i + 1 else 0

-- the visits from one index to another: the level of the new part less that of the deepest occurrence above both
abbrev pub move_visits : Option Node → ℕ → ℕ → ℕ
move_visits None i j = 0
move_visits (Some n) i j = level n j - shared_level n i j

-- the preorder number of the part that holds an index
abbrev pub number_at : Option Node → ℕ → ℕ
number_at None i = 0
number_at (Some n) i = preorder n i

-- how many occurrences there are in a cord
abbrev pub occurrences : Option Node → ℕ
occurrences None = 0
occurrences (Some n) = size n

-- the visits of a `next` at this index: the preorder number of the new part less that of the old one, and 0 at the last place
abbrev pub next_visits : Option Node → Option ℕ → ℕ
next_visits c None = 0
next_visits c (Some i) = if nat_lt (i + 1) (text_len c) then number_at c (i + 1) - number_at c i else 0

-- the visits of a `prev` at this index: the level of the new part less that of the deepest occurrence above both, and 0 at 0
abbrev pub prev_visits : Option Node → Option ℕ → ℕ
prev_visits c None = 0
prev_visits c (Some zero) = 0
prev_visits c (Some (suc i)) = move_visits c (suc i) i

-- the visits of a move to an index: as from one index of the cord to another, and none where it becomes or is invalid
abbrev pub moved_visits : Option Node → Option ℕ → ℕ → ℕ
moved_visits c None j = 0
moved_visits c (Some i) j = if nat_lt j (text_len c) then move_visits c i j else 0
