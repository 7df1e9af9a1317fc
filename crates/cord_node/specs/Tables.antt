-- The text of a node over a table of sources, and when its function parts lie inside them.
use Rattle.std.specs.Prelude.{◌≡◌, ℕ, ◌+◌, ◌<◌, ◌≤◌, List, [], ◌∷◌, ◌++◌, length, take, drop, replicate, slice_index, Some, ⊤}
use Rattle.std.specs.Rc.{rc_slice_items}
use Rattle.cord_io.specs.Table.{Table, Lengths, length_at}
use Rattle.cord_node.specs.declared.Node.{Node}
use Rattle.cord_node.specs.declared.Node.TheVariants.{Leaf, Run, Func, Cat'}
use Rattle.cord_node.specs.Tree.{Cell, known, held_by}

-- the text of a node over a table
abbrev pub bytes_over : Table → Node → List ℕ
bytes_over t (Leaf len bytes start mark) = take len (drop start (rc_slice_items bytes))
bytes_over t (Run byte len) = replicate len byte
bytes_over t (Func id len start) = take len (drop start (t id.0))
bytes_over t (Cat' mark depth len p left q right count) = bytes_over t left ++ bytes_over t right

-- each function part lies inside a source of this length
abbrev pub FitsIn : Lengths → Node → Type 0
FitsIn lengths (Leaf len bytes start mark) = ⊤
FitsIn lengths (Run byte len) = ⊤
FitsIn lengths (Func id len start) = start + len ≤ length_at lengths id.0
FitsIn lengths (Cat' mark depth len p left q right count) = FitsIn lengths left × FitsIn lengths right

-- the lengths of the sources of a table
abbrev pub lengths_of : Table → Lengths
lengths_of t id = Some (length (t id))

-- each function part lies inside a source of the table
abbrev pub Fits : Table → Node → Type 0
Fits t n = FitsIn (lengths_of t) n

-- the byte that a cell has over a table
abbrev pub byte_at : Table → Cell → ℕ
byte_at t (known b) = b
byte_at t (held_by id i) = slice_index (t id) i

-- the cell lies inside a source of this length
abbrev pub IsHeldIn : Lengths → Cell → Type 0
IsHeldIn lengths (known b) = ⊤
IsHeldIn lengths (held_by id i) = i < length_at lengths id

-- each cell lies inside a source of this length
abbrev pub AreHeldIn : Lengths → List Cell → Type 0
AreHeldIn lengths [] = ⊤
AreHeldIn lengths (x ∷ xs) = IsHeldIn lengths x × AreHeldIn lengths xs

-- over each table that both nodes fit, the third one fits too and has one text and then the other
pub record IsJoinOver (left right node : Node) : Type 0 where
  pub fits : (lengths : Lengths) → FitsIn lengths left → FitsIn lengths right → FitsIn lengths node
  pub bytes : (t : Table) → Fits t left → Fits t right → bytes_over t node ≡ bytes_over t left ++ bytes_over t right
