-- What holds at each turn of the loops over a forest.
use Rattle.std.specs.Prelude.{◌≡◌, ℕ, ◌+◌, ◌≤◌, List, ◌++◌, Option, Some, None, IfNone, IfSome, max, ⊤}
use Rattle.cord_node.specs.Tree.{cells, len_of, depth_of, count_of, joined_depth, joined_count, IsSound}
use Rattle.cord_node.specs.PartsFrom.{parts, PartsFrom}
use Rattle.cord_balance.specs.Fib.{fib_of, IsSlotOf}
use Rattle.cord_balance.specs.Pieces.{Shared, all_cells, all_parts, total_len, AllSound}
use Rattle.cord_balance.specs.inner.Forest.{AllFrom, IsForest, forest_cells, forest_parts, forest_len, piece_cells, piece_parts, piece_len}
use Rattle.cord_balance.specs.inner.Forest.{IsGatheredBelow}
use Rattle.cord_balance.specs.declared.forest.Piece.{Piece}

-- it may stand to the right of each of these
abbrev pub GoesRightOf : Option Shared → List Piece → Type 0
GoesRightOf None ps = ⊤
GoesRightOf (Some n) ps = AllFrom (depth_of n.value + 1) ps

-- pieces are taken off the end of old: rest is left, and joined was joined of the others
pub record IsGathering (old rest : List Piece) (joined : Option Shared) (below : ℕ) : Type 0 where
  pub forest : IsForest rest
  pub text : forest_cells old ≡ forest_cells rest ++ piece_cells joined
  pub len : forest_len old ≡ forest_len rest + piece_len joined
  pub parts_from : PartsFrom (forest_parts old) (forest_parts rest ++ piece_parts joined)
  pub gathered : IsGatheredBelow below joined
  pub right : GoesRightOf joined rest

-- what `put_left` gives
pub record IsPutLeft (left : Shared) (right : Option Shared) (node : Shared) : Type 0 where
  pub sound : IsSound node.value
  pub text : cells node.value ≡ cells left.value ++ piece_cells right
  pub len : len_of node.value ≡ len_of left.value + piece_len right
  pub parts_from : PartsFrom (parts left.value ++ piece_parts right) (parts node.value)
  pub shallow : fib_of (depth_of node.value) ≤ count_of node.value
  pub alone : IfNone right (depth_of node.value ≡ depth_of left.value)
  pub depth : IfSome right (λ r. depth_of node.value ≤ max (depth_of left.value) (depth_of r.value) + 1)

-- a node is put after the pieces of old: rest is left, and the others were joined with the node
pub record IsMerging (old rest : List Piece) (node joined : Shared) (slot : ℕ) : Type 0 where
  pub forest : IsForest rest
  pub sound : IsSound joined.value
  pub slot_is : IsSlotOf (count_of joined.value) slot
  pub shallow : fib_of (depth_of joined.value + 1) ≤ count_of joined.value
  pub beyond : AllFrom (depth_of joined.value) rest
  pub text : forest_cells old ++ cells node.value ≡ forest_cells rest ++ cells joined.value
  pub len : forest_len old + len_of node.value ≡ forest_len rest + len_of joined.value
  pub parts_from : PartsFrom (forest_parts old ++ parts node.value) (forest_parts rest ++ parts joined.value)

-- what `join` gives
pub record IsJoinOf (left right node : Shared) : Type 0 where
  pub sound : IsSound node.value
  pub text : cells node.value ≡ cells left.value ++ cells right.value
  pub len : len_of node.value ≡ len_of left.value + len_of right.value
  pub depth : depth_of node.value ≤ max (depth_of left.value) (depth_of right.value) + 1
  pub depth_is : depth_of node.value ≡ joined_depth left.value right.value
  pub count : count_of node.value ≡ joined_count left.value right.value
  pub parts_from : PartsFrom (parts left.value ++ parts right.value) (parts node.value)

-- some of the nodes are in the forest, and these are left
pub record IsFilling (all rest : List Shared) (forest : List Piece) : Type 0 where
  pub is_forest : IsForest forest
  pub sound : AllSound rest
  pub text : forest_cells forest ++ all_cells rest ≡ all_cells all
  pub len : forest_len forest + total_len rest ≡ total_len all
  pub parts_from : PartsFrom (all_parts all) (forest_parts forest ++ all_parts rest)
