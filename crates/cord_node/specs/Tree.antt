-- What a node is: its text as a list of cells, its length and depth, and when it is sound.
use Rattle.std.specs.Prelude.{◌≡◌, ℕ, ◌+◌, ◌<◌, ◌≤◌, max, List, [], ◌∷◌, ◌++◌, length, map, take, drop, replicate, Bool, true, false, ◌&&◌}
use Rattle.std.specs.Prelude.{nat_le, if◌then◌else◌}
use Rattle.std.specs.List.{range_with_len}
use Rattle.std.specs.Rc.{rc_slice_items}
use Rattle.cord_io.specs.declared.TheConstants.{MAX_LEN, MAX_DEPTH}
use Rattle.cord_node.specs.declared.Node.{Node}
use Rattle.cord_node.specs.declared.Node.TheVariants.{Leaf, Run, Func, Cat'}
use Rattle.cord_node.specs.declared.TheConstants.{SMALL_LEN}
use Rattle.cord_node.specs.PartsFrom.{leaf_part, parts}

-- one place of a text: a byte that is known, or the byte that a source has at an index
pub data Cell : Type 0 where
  known : ℕ → Cell
  held_by : ℕ → ℕ → Cell

-- the places of a node's text, in order
abbrev pub cells : Node → List Cell
cells (Leaf len bytes start mark) = map known (take len (drop start (rc_slice_items bytes)))
cells (Run byte len) = replicate len (known byte)
cells (Func id len start) = map (held_by id.0) (range_with_len start len)
cells (Cat' mark depth len p left q right count) = cells left ++ cells right

-- the length of the text, counted part by part
abbrev pub true_len : Node → ℕ
true_len (Leaf len bytes start mark) = len
true_len (Run byte len) = len
true_len (Func id len start) = len
true_len (Cat' mark depth len p left q right count) = true_len left + true_len right

-- the depth: 0 for a part, else one more than the greater depth of the two sides
abbrev pub true_depth : Node → ℕ
true_depth (Leaf len bytes start mark) = 0
true_depth (Run byte len) = 0
true_depth (Func id len start) = 0
true_depth (Cat' mark depth len p left q right count) = max (true_depth left) (true_depth right) + 1

-- the length that a node stores
abbrev pub len_of : Node → ℕ
len_of (Leaf len bytes start mark) = len
len_of (Run byte len) = len
len_of (Func id len start) = len
len_of (Cat' mark depth len p left q right count) = len

-- the depth that a node stores, and 0 for a part
abbrev pub depth_of : Node → ℕ
depth_of (Leaf len bytes start mark) = 0
depth_of (Run byte len) = 0
depth_of (Func id len start) = 0
depth_of (Cat' mark depth len p left q right count) = depth

-- the number of parts that a node stores, and 1 for a part
abbrev pub count_of : Node → ℕ
count_of (Leaf len bytes start mark) = 1
count_of (Run byte len) = 1
count_of (Func id len start) = 1
count_of (Cat' mark depth len p left q right count) = count

-- the ranges of leaves lie inside their bytes, nothing is empty, the limits hold, and what a
-- concatenation stores fits what its two sides store, so that it is the true length, depth and number
-- of parts; each mark stands for the parts of its node
abbrev pub IsSound : Node → Type 0
IsSound (Leaf len bytes start mark) = (0 < len) × (start + len ≤ length (rc_slice_items bytes)) × (len ≤ MAX_LEN) ×
    (mark ≡ leaf_part (rc_slice_items bytes) start len ∷ [])
IsSound (Run byte len) = (0 < len) × (len ≤ MAX_LEN)
IsSound (Func id len start) = (0 < len) × (start + len ≤ MAX_LEN)
IsSound (Cat' mark depth len p left q right count) = IsSound left × IsSound right × (len ≡ len_of left + len_of right) ×
    (depth ≡ max (depth_of left) (depth_of right) + 1) × (len ≤ MAX_LEN) × (depth ≤ MAX_DEPTH) × (mark ≡ parts left ++ parts right) ×
    (count ≡ count_of left + count_of right)

-- it is a `Leaf`
abbrev pub is_leaf : Node → Bool
is_leaf (Leaf len bytes start mark) = true
is_leaf _ = false

-- it is a `Cat` of these two
abbrev pub HasSides : Node → Node → Node → Type 0
HasSides left right (Leaf len bytes start mark) = ⊥
HasSides left right (Run byte len) = ⊥
HasSides left right (Func id len start) = ⊥
HasSides left right (Cat' mark depth len p first q second count) = (first ≡ left) × (second ≡ right)

-- two leaves that are so short together that their join is one leaf
abbrev pub are_merged : Node → Node → Bool
are_merged left right = is_leaf left && is_leaf right && nat_le (len_of left + len_of right) SMALL_LEN

-- the depth that the join of two nodes has
abbrev pub joined_depth : Node → Node → ℕ
joined_depth left right = if are_merged left right then 0 else max (depth_of left) (depth_of right) + 1

-- the number of parts that the join of two nodes has
abbrev pub joined_count : Node → Node → ℕ
joined_count left right = if are_merged left right then 1 else count_of left + count_of right
