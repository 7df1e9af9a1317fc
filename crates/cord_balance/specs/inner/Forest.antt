-- Pieces in slots, from that with the most parts to that with the fewest.
use Rattle.std.specs.Prelude.{◌≡◌, ℕ, ◌+◌, ◌<◌, ◌≤◌, List, [], ◌∷◌, ◌++◌, Option, Some, None, ⊤}
use Rattle.cord_node.specs.Tree.{Cell, cells, len_of, depth_of, count_of, IsSound}
use Rattle.cord_node.specs.PartsFrom.{Part, parts, PartsFrom}
use Rattle.cord_node.specs.declared.Node.{Node}
use Rattle.cord_balance.specs.Fib.{fib_of, IsSlotOf}
use Rattle.cord_balance.specs.Pieces.{Shared}
use Rattle.cord_balance.specs.declared.forest.Piece.{Piece}
use Rattle.cord_balance.specs.declared.forest.balanced_trees.Known.{Known}

-- a piece in its slot, less deep than the slot's number
pub record IsPieceInSlot (p : Piece) : Type 0 where
  pub sound : IsSound p.node.value
  pub slot : IsSlotOf (count_of p.node.value) p.slot
  pub shallow : fib_of (depth_of p.node.value + 1) ≤ count_of p.node.value

-- each slot is below k
abbrev pub AllBelow : ℕ → List Piece → Type 0
AllBelow k [] = ⊤
AllBelow k (p ∷ ps) = (p.slot < k) × AllBelow k ps

-- each slot is at least k
abbrev pub AllFrom : ℕ → List Piece → Type 0
AllFrom k [] = ⊤
AllFrom k (p ∷ ps) = (k ≤ p.slot) × AllFrom k ps

-- pieces whose slots fall
abbrev pub IsForest : List Piece → Type 0
IsForest [] = ⊤
IsForest (p ∷ ps) = IsPieceInSlot p × AllBelow p.slot ps × IsForest ps

-- the text so far
abbrev pub forest_cells : List Piece → List Cell
forest_cells [] = []
forest_cells (p ∷ ps) = cells p.node.value ++ forest_cells ps

-- its parts
abbrev pub forest_parts : List Piece → List Part
forest_parts [] = []
forest_parts (p ∷ ps) = parts p.node.value ++ forest_parts ps

-- its length
abbrev pub forest_len : List Piece → ℕ
forest_len [] = 0
forest_len (p ∷ ps) = len_of p.node.value + forest_len ps

-- what a piece that was taken off adds
abbrev pub piece_cells : Option Shared → List Cell
piece_cells None = []
piece_cells (Some n) = cells n.value

-- the parts that it adds
abbrev pub piece_parts : Option Shared → List Part
piece_parts None = []
piece_parts (Some n) = parts n.value

-- the length that it adds
abbrev pub piece_len : Option Shared → ℕ
piece_len None = 0
piece_len (Some n) = len_of n.value

-- small pieces joined: sound, and less deep than the slot that comes
abbrev pub IsGatheredBelow : ℕ → Option Shared → Type 0
IsGatheredBelow below None = ⊤
IsGatheredBelow below (Some n) = IsSound n.value × (fib_of (depth_of n.value) ≤ count_of n.value) × (depth_of n.value < below)

-- it has the text and the parts of the node, and is as long
pub record IsForm (node form : Node) : Type 0 where
  pub sound : IsSound form
  pub text : cells form ≡ cells node
  pub len : len_of form ≡ len_of node
  pub parts_from : PartsFrom (parts node) (parts form)

-- a subtree with its form
abbrev pub IsKnown : Known → Type 0
IsKnown k = IsSound k.node.value × IsForm k.node.value k.form.value
