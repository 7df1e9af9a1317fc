-- The way from a root to the part that holds an index, and how it is left and taken again.
use Rattle.std.specs.Prelude.{◌≡◌, ℕ, ◌+◌, ◌-◌, ◌^◌, min, ◌<◌, ◌≤◌, nat_lt, nat_le, ◌&&◌, Bool, true, false, if◌then◌else◌, List, [], ◌∷◌, ◌++◌}
use Rattle.std.specs.Prelude.{map, Option, Some, None, ⊤}
use Rattle.std.specs.Option.{option_map}
use Rattle.cord_node.specs.declared.Node.{Node}
use Rattle.cord_node.specs.declared.Node.TheVariants.{Leaf, Run, Func, Cat'}
use Rattle.cord_io.specs.declared.TheConstants.{MAX_LEN}
use Rattle.cord_node.specs.Tree.{len_of, depth_of, IsSound}
use Rattle.cord_node.specs.Occurrences.{level, shared_level}
use Rattle.cord_pos.specs.declared.path.Occurrence.{Occurrence}
use Rattle.cord_pos.specs.declared.path.Part.{Part}
use Rattle.cord_pos.specs.declared.path.Path.{Path}
use Rattle.cord_pos.specs.declared.path.TheConstants.{PATH_LEN}
use Rattle.cord_pos.specs.declared.visited.Visited.{Visited}

-- the node that was visited
abbrev pub node_of : Visited → Node
node_of v = v.node.now

-- a node, and where its text begins in the text of the root
abbrev pub Place : Type 0
Place = Option Node × ℕ

-- the place of an occurrence
abbrev pub place_of : Occurrence → Place
place_of o = (option_map node_of o.node, o.start)

-- the places of a list of occurrences
abbrev pub places : List Occurrence → List Place
places os = map place_of os

-- the places below a node that begins at `start`, down to the part that holds the index `i` of the node
abbrev pub below : Node → ℕ → ℕ → List Place
below (Leaf len bytes s mark) start i = []
below (Run byte len) start i = []
below (Func id len s) start i = []
below (Cat' mark depth len p left q right count) start i = if nat_lt i (len_of left) then (Some left, start)
    ∷ below left start i else (Some right, start + len_of left) ∷ below right (start + len_of left) (i - len_of left)

-- the same, with the node's own place first
abbrev pub way : Node → ℕ → ℕ → List Place
way n start i = (Some n, start) ∷ below n start i

-- the part that holds the index `i` of a node that begins at `start`, and where the part begins
abbrev pub part_at : Node → ℕ → ℕ → Node × ℕ
part_at (Leaf len bytes s mark) start i = (Leaf len bytes s mark, start)
part_at (Run byte len) start i = (Run byte len, start)
part_at (Func id len s) start i = (Func id len s, start)
part_at (Cat' mark depth len p left q right count) start i = if nat_lt i (len_of left) then part_at left start i else part_at right
    (start + len_of left) (i - len_of left)

-- the node at a place holds this index of the root's text
abbrev pub holds : ℕ → Place → Bool
holds at (None, start) = false
holds at (Some n, start) = nat_le start at && nat_lt (at - start) (len_of n)

-- no place of the list holds the index
abbrev pub NoneHolds : ℕ → List Place → Type 0
NoneHolds at [] = ⊤
NoneHolds at (p ∷ ps) = (holds at p ≡ false) × NoneHolds at ps

-- the new places are the old ones without some of the last, none of which holds the index
pub record IsClimb (old new : List Place) (at : ℕ) : Type 0 where
  pub left_out : List Place
  pub split : old ≡ new ++ left_out
  pub none_holds : NoneHolds at left_out

-- the last place is that of this node, which holds the index
pub record EndsIn (ps : List Place) (n : Node) (start at : ℕ) : Type 0 where
  pub prefix : List Place
  pub split : ps ≡ prefix ++ (Some n, start) ∷ []
  pub holds : holds at (Some n, start) ≡ true

-- from a node that begins at a place one can step down to its index: there is room for so many places and those of the way
pub record CanDescend (top : Node) (start index count visits : ℕ) : Type 0 where
  pub sound : IsSound top
  pub inside : index < len_of top
  pub fits : start + len_of top ≤ MAX_LEN
  pub room : count + depth_of top ≤ PATH_LEN
  pub counted : visits ≤ 2 ^ 64 - 1

-- the way down from it was taken to the part that holds the index
pub record IsDescent (old new : Path) (top : Node) (start index : ℕ) (found : Part) : Type 0 where
  pub places : places new.stops.items ≡ places old.stops.items ++ below top start index
  pub visits : new.visits.count ≡ min (old.visits.count + level top index) (2 ^ 64 - 1)
  pub part : (node_of found.node, found.start) ≡ part_at top start index
  pub end : found.end ≡ found.start + len_of (node_of found.node)

-- the places are those of a way from a sound root, which holds the index
pub record IsOnWay (ps : List Place) (at : ℕ) : Type 0 where
  pub root : Node
  pub from : ℕ
  pub sound : IsSound root
  pub inside : at < len_of root
  pub way : ps ≡ way root 0 from

-- from the way to one index the way to another was taken, with the visits that this takes
pub record IsTaken (root : Node) (from at : ℕ) (new : List Place) (node : Node) (start old_visits visits : ℕ) : Type 0 where
  pub way : new ≡ way root 0 at
  pub part : (node, start) ≡ part_at root 0 at
  pub visits_more : visits ≡ min (old_visits + (level root at - shared_level root from at)) (2 ^ 64 - 1)

-- the same, whatever root the way began at
abbrev pub IsTakenTo : List Place → ℕ → List Place → Node → ℕ → ℕ → ℕ → Type 0
IsTakenTo old at new node start old_visits visits = (root : Node) → (from : ℕ) → IsSound root → at < len_of root → old ≡ way root 0 from →
    IsTaken root from at new node start old_visits visits
