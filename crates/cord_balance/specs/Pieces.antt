-- Lists of nodes.
use Rattle.std.specs.Prelude.{◌≡◌, ℕ, ◌+◌, List, [], ◌∷◌, ◌++◌, ⊤}
use Rattle.std.specs.declared.rc.Rc.{Rc}
use Rattle.std.specs.declared.alloc.Global.{Global}
use Rattle.cord_io.specs.Table.{Table, Lengths}
use Rattle.cord_node.specs.declared.Node.{Node}
use Rattle.cord_node.specs.Tree.{Cell, cells, len_of, IsSound}
use Rattle.cord_node.specs.Tables.{bytes_over, FitsIn, lengths_of}
use Rattle.cord_node.specs.PartsFrom.{Part, parts}

-- a node in a list
abbrev pub Shared : Type 0
Shared = Rc Node Global

-- their texts, one after another
abbrev pub all_cells : List Shared → List Cell
all_cells [] = []
all_cells (x ∷ xs) = cells x.value ++ all_cells xs

-- their parts, one after another
abbrev pub all_parts : List Shared → List Part
all_parts [] = []
all_parts (x ∷ xs) = parts x.value ++ all_parts xs

-- their lengths together
abbrev pub total_len : List Shared → ℕ
total_len [] = 0
total_len (x ∷ xs) = len_of x.value + total_len xs

-- each is sound
abbrev pub AllSound : List Shared → Type 0
AllSound [] = ⊤
AllSound (x ∷ xs) = IsSound x.value × AllSound xs

-- each fits these lengths
abbrev pub AllFitIn : Lengths → List Shared → Type 0
AllFitIn lengths [] = ⊤
AllFitIn lengths (x ∷ xs) = FitsIn lengths x.value × AllFitIn lengths xs

-- their texts over a table, one after another
abbrev pub all_bytes : Table → List Shared → List ℕ
all_bytes t [] = []
all_bytes t (x ∷ xs) = bytes_over t x.value ++ all_bytes t xs

-- over each table that all of them fit, the node fits too and has their texts in order
pub record AreJoinedOver (xs : List Shared) (node : Node) : Type 0 where
  pub fits : (lengths : Lengths) → AllFitIn lengths xs → FitsIn lengths node
  pub bytes : (t : Table) → AllFitIn (lengths_of t) xs → bytes_over t node ≡ all_bytes t xs
