-- A cord is nothing, or a sound node: its text, length, depth and parts.
use Rattle.std.specs.Prelude.{ℕ, List, [], Option, Some, None, option_map, ⊤}
use Rattle.std.specs.declared.rc.Rc.{Rc}
use Rattle.cord_node.specs.declared.Node.{Node}
use Rattle.cord_node.specs.Tree.{Cell, cells, len_of, depth_of, IsSound}
use Rattle.cord_node.specs.PartsFrom.{Part, parts}

-- the node behind a handle, where there is one
abbrev pub node_in : {Z : Type 0} → Option (Rc Node Z) → Option Node
node_in handle = option_map (λ r. r.value) handle

-- the text of a cord, as cells
abbrev pub text : Option Node → List Cell
text None = []
text (Some n) = cells n

-- its length
abbrev pub text_len : Option Node → ℕ
text_len None = 0
text_len (Some n) = len_of n

-- its depth: 0 where it is empty
abbrev pub depth : Option Node → ℕ
depth None = 0
depth (Some n) = depth_of n

-- its parts
abbrev pub parts_of : Option Node → List Part
parts_of None = []
parts_of (Some n) = parts n

-- what holds of each cord
abbrev pub IsCord : Option Node → Type 0
IsCord None = ⊤
IsCord (Some n) = IsSound n
