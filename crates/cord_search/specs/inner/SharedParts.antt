-- Places of nodes, the ways to them, and what two texts have at two places.
use Rattle.std.specs.Prelude.{◌≡◌, ℕ, ◌+◌, ◌<◌, ◌≤◌, take, drop, Option, Some, IfSome, slice_get}
use Rattle.arrayvec.specs.ArrayVec.{array_vec_len}
use Rattle.cord_io.specs.Table.{Table}
use Rattle.cord_io.specs.declared.TheConstants.{MAX_DEPTH}
use Rattle.cord_node.specs.declared.Node.{Node}
use Rattle.cord_node.specs.Tree.{cells, len_of, depth_of, IsSound}
use Rattle.cord_core.specs.Cord.{bytes_of, CordFits}
use Rattle.cord_pos.specs.Spans.{span_len, IsSpanOf}
use Rattle.cord_pos.specs.inner.Spans.{IsWithin}
use Rattle.cord_search.specs.declared.shared_parts.TheConstants.{WAY_LEN}
use Rattle.cord_search.specs.declared.shared_parts.Spot.{Spot}
use Rattle.cord_search.specs.declared.shared_parts.Stop.{Stop}
use Rattle.cord_search.specs.declared.shared_parts.Way.{Way}
use Rattle.cord_search.specs.declared.shared_parts.Ahead.{Ahead}
use Rattle.cord_search.specs.declared.shared_parts.Ahead.TheVariants.{Same, Apart}

-- the place is one of the node's, which is sound
abbrev pub IsSpot : Spot → Type 0
IsSpot s = IsSound s.node.now × (s.place < len_of s.node.now)

-- one place of two nodes that have one text
abbrev pub AreOneSpot : Spot → Spot → Type 0
AreOneSpot s other = (s.place ≡ other.place) × (len_of s.node.now ≡ len_of other.node.now) × (cells s.node.now ≡ cells other.node.now)

-- the same place in a side of the node
pub record IsSideOf (s side : Spot) : Type 0 where
  pub spot : IsSpot side
  pub within : IsWithin s.node.now s.place side.node.now side.place
  pub shorter : len_of side.node.now < len_of s.node.now
  pub lower : depth_of side.node.now < depth_of s.node.now

-- the place of the cord is this one of a node of it
pub record IsSpotOf (c : Option Node) (at : ℕ) (s : Spot) : Type 0 where
  pub root : Node
  pub is : c ≡ Some root
  pub within : IsWithin root at s.node.now s.place
  pub spot : IsSpot s

-- a node k steps below the root of the cord, where its text begins
pub record IsStop (c : Option Node) (k : ℕ) (s : Stop) : Type 0 where
  pub root : Node
  pub is : c ≡ Some root
  pub within : IsWithin root s.start s.node.now 0
  pub depth : k + depth_of s.node.now ≤ MAX_DEPTH

-- each node on the way is one of the cord's
abbrev pub IsWay : Option Node → Way → Type 0
IsWay c w = (k : ℕ) → IfSome (slice_get w.stops.items k) (λ o. IfSome o (IsStop c k))

-- the way leads to this place of the cord, and has room down to a part
pub record LeadsTo (c : Option Node) (at : ℕ) (w : Way) (s : Spot) : Type 0 where
  pub spot : IsSpotOf c at s
  pub way : IsWay c w
  pub room : array_vec_len w.stops + depth_of s.node.now ≤ WAY_LEN

-- the next n bytes of two cords from two places are the same
abbrev pub AreAlike : Option Node → ℕ → Option Node → ℕ → ℕ → Type 0
AreAlike c i d j n = (t : Table) → CordFits t c → CordFits t d → take n (drop i (bytes_of t c)) ≡ take n (drop j (bytes_of t d))

-- what two cords have at two places: up to `most` bytes that are the same, or spans of one length
abbrev pub IsCommonAhead : Option Node → ℕ → Option Node → ℕ → ℕ → Ahead → Type 0
IsCommonAhead c i d j most (Same n) = (0 < n) × (n ≤ most) × AreAlike c i d j n
IsCommonAhead c i d j most (Apart s other) = IsSpanOf c i s × IsSpanOf d j other × (span_len other ≡ span_len s) ×
    (span_len s ≤ most)
