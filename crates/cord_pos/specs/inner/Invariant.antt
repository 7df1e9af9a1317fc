-- What holds of each position: its path is the way to the part that holds its index.
use Rattle.std.specs.Prelude.{◌≡◌, ℕ, ◌+◌, ◌<◌, ◌≤◌, ◌^◌, ◌-◌, List, Option, Some, None, ⊤}
use Rattle.cord_node.specs.declared.Node.{Node}
use Rattle.cord_node.specs.Tree.{len_of, IsSound}
use Rattle.cord_pos.specs.declared.path.Part.{Part}
use Rattle.cord_pos.specs.declared.path.Path.{Path}
use Rattle.cord_pos.specs.declared.Spot.{Spot}
use Rattle.cord_pos.specs.inner.Path.{Place, node_of, places, way, part_at}

-- the path from the root `n` leads to the part `part` that holds the index
pub record IsOnPart (n : Node) (index : ℕ) (part : Part) (ps : List Place) : Type 0 where
  pub sound : IsSound n
  pub inside : index < len_of n
  pub way : ps ≡ way n 0 index
  pub holder : (node_of part.node, part.start) ≡ part_at n 0 index
  pub end : part.end ≡ part.start + len_of (node_of part.node)

-- the same of a cord's root
abbrev pub IsOnCord : Option Node → ℕ → Part → List Place → Type 0
IsOnCord None index part ps = ⊥
IsOnCord (Some n) index part ps = IsOnPart n index part ps

-- the same, of a position with an index: without one the path may be any
abbrev pub IsOnSpot : Option Node → Option Spot → List Place → Type 0
IsOnSpot c None ps = ⊤
IsOnSpot c (Some spot) ps = IsOnCord c spot.index spot.part ps

-- what holds of the fields of a position
pub record IsPosition (c : Option Node) (spot : Option Spot) (path : Path) : Type 0 where
  pub on_spot : IsOnSpot c spot (places path.stops.items)
  pub counted : path.visits.count ≤ 2 ^ 64 - 1
