-- How deep a cord is that is made of others, and of which nodes.
use Rattle.std.specs.Prelude.{◌≡◌, ℕ, ◌<◌, ◌≤◌, List, ◌++◌, Option, Some, None, false, length}
use Rattle.cord_io.specs.declared.TheConstants.{MAX_DEPTH}
use Rattle.cord_node.specs.declared.Node.{Node}
use Rattle.cord_node.specs.Tree.{depth_of, are_merged, joined_depth, HasSides}
use Rattle.cord_node.specs.PartsFrom.{parts, PartsFrom}
use Rattle.cord_balance.specs.Fib.{IsSlotOf}
use Rattle.cord_core.specs.Cord.{text_len, depth, parts_of, IsCord}
use Rattle.cord_core.specs.Forms.{IsLeafOf}

-- no deeper than its slot: nothing for the empty cord, which has depth 0
abbrev pub IsInSlot : Option Node → Type 0
IsInSlot None = Unit {0}
IsInSlot (Some m) = (n : ℕ) → IsSlotOf (text_len (Some m)) n → depth_of m ≤ n

-- no deeper than the slot of its number of parts
abbrev pub IsInPartSlot : Option Node → Type 0
IsInPartSlot None = Unit {0}
IsInPartSlot (Some m) = (n : ℕ) → IsSlotOf (length (parts m)) n → depth_of m ≤ n

-- the depth of the concatenation c of x and y: where one is empty that of the other, where both
-- have a node that of the join of the nodes, and where that would be too deep at most its slot,
-- that of its length and that of its number of parts
abbrev pub HasCatDepth : Option Node → Option Node → Option Node → Type 0
HasCatDepth None y c = depth c ≡ depth y
HasCatDepth (Some n) None c = depth c ≡ depth_of n
HasCatDepth (Some n) (Some m) c = (joined_depth n m ≤ MAX_DEPTH → depth c ≡ joined_depth n m) × (MAX_DEPTH < joined_depth n m → IsInSlot c × IsInPartSlot c)

-- of which nodes the concatenation c of x and y is made: where one is empty it is the other, and where both have a node a `Cat` of just
-- these two, unless their join is one leaf or would be too deep
abbrev pub HasCatSides : Option Node → Option Node → Option Node → Type 0
HasCatSides None y c = c ≡ y
HasCatSides (Some n) None c = c ≡ Some n
HasCatSides (Some n) (Some m) None = ⊥
HasCatSides (Some n) (Some m) (Some k) = are_merged n m ≡ false → joined_depth n m ≤ MAX_DEPTH → HasSides n m k

-- c is the concatenation of x and of what `from_bytes` makes of the bytes, as its depth, its parts and its sides show
pub record IsCatWithBytes (x : Option Node) (b : List ℕ) (c : Option Node) : Type 0 where
  pub tail : Option Node
  pub sound : IsCord tail
  pub form : IsLeafOf b tail
  pub depth_is : HasCatDepth x tail c
  pub sides : HasCatSides x tail c
  pub parts_from : PartsFrom (parts_of x ++ parts_of tail) (parts_of c)
