-- Places of nodes in a tree, in the order of a walk that meets a node before its two sides.
use Rattle.std.specs.Prelude.{ℕ, ◌+◌, ◌-◌, nat_lt, ◌&&◌, not, if◌then◌else◌}
use Rattle.cord_node.specs.declared.Node.{Node}
use Rattle.cord_node.specs.declared.Node.TheVariants.{Leaf, Run, Func, Cat'}
use Rattle.cord_node.specs.Tree.{len_of}

-- how many occurrences there are in a node, with its own
abbrev pub size : Node → ℕ
size (Leaf len bytes start mark) = 1
size (Run byte len) = 1
size (Func id len start) = 1
size (Cat' mark depth len p left q right count) = 1 + size left + size right

-- the preorder number of the part that holds an index: how many occurrences come before it
abbrev pub preorder : Node → ℕ → ℕ
preorder (Leaf len bytes start mark) i = 0
preorder (Run byte len) i = 0
preorder (Func id len start) i = 0
preorder (Cat' mark depth len p left q right count) i = if nat_lt i (len_of left) then 1 + preorder left i else 1 + size left
    + preorder right (i - len_of left)

-- the level of the part that holds an index: the steps, left or right, from the root to it
abbrev pub level : Node → ℕ → ℕ
level (Leaf len bytes start mark) i = 0
level (Run byte len) i = 0
level (Func id len start) i = 0
level (Cat' mark depth len p left q right count) i = if nat_lt i (len_of left) then 1 + level left i else 1 + level right (i - len_of left)

-- the level of the deepest occurrence above the parts that hold two indices: the steps that both share
abbrev pub shared_level : Node → ℕ → ℕ → ℕ
shared_level (Leaf len bytes start mark) i j = 0
shared_level (Run byte len) i j = 0
shared_level (Func id len start) i j = 0
shared_level (Cat' mark depth len p left q right count) i j =
    if nat_lt i (len_of left) && nat_lt j (len_of left) then 1 + shared_level left i j
    else (if not (nat_lt i (len_of left)) && not (nat_lt j (len_of left)) then 1
    + shared_level right (i - len_of left) (j - len_of left) else 0)
