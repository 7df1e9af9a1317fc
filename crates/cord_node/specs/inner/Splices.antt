-- Where an edit of a node goes on, and what it leaves of its sides.
use Rattle.std.specs.Prelude.{◌≡◌, ℕ, ◌+◌, ◌-◌, ◌<◌, ◌≤◌, max, ◌++◌, take, drop}
use Rattle.std.specs.Prelude.{Bool, true, false, Option}
use Rattle.cord_io.specs.declared.TheConstants.{MAX_LEN, MAX_DEPTH}
use Rattle.cord_node.specs.declared.Node.{Node}
use Rattle.cord_node.specs.declared.Node.TheVariants.{Leaf, Run, Func, Cat'}
use Rattle.cord_node.specs.Tree.{cells, len_of, depth_of, IsSound}
use Rattle.cord_node.specs.PartsFrom.{parts, AreFrom}
use Rattle.cord_node.specs.Touched.{AtMostOneMore}
use Rattle.cord_node.specs.Cords.{text, text_len, depth, parts_of, IsCord}

-- it is a `Cat`
abbrev pub is_cat : Node → Bool
is_cat (Cat' mark depth len p left q right count) = true
is_cat _ = false

-- these are the sides of the node
abbrev pub AreSides : Node → Node → Node → Type 0
AreSides (Leaf len bytes start mark) a b = ⊥
AreSides (Run byte len) a b = ⊥
AreSides (Func id len start) a b = ⊥
AreSides (Cat' mark depth len p left q right count) a b = (a ≡ left) × (b ≡ right)

-- it is a `Cat`, and this holds of its sides
abbrev pub SidesAre : (Node → Node → Type 0) → Node → Type 0
SidesAre holds (Leaf len bytes start mark) = ⊥
SidesAre holds (Run byte len) = ⊥
SidesAre holds (Func id len start) = ⊥
SidesAre holds (Cat' mark depth len p left q right count) = holds left right

-- the range lies inside the node, which stays and is no less deep than what comes in the range's place
pub record TakesRange (from until : ℕ) (middle : Option Node) (side : Node) : Type 0 where
  pub inside : until ≤ len_of side
  pub stays : 0 < from + text_len middle + (len_of side - until)
  pub deep : depth middle ≤ depth_of side

-- an edit of a node with these sides can go on in the left one
abbrev pub LeftTakes : ℕ → ℕ → Option Node → Node → Node → Type 0
LeftTakes from until middle left right = TakesRange from until middle left

-- in the right one
abbrev pub RightTakes : ℕ → ℕ → Option Node → Node → Node → Type 0
RightTakes from until middle left right = (len_of left ≤ from) × TakesRange (from - len_of left) (until - len_of left) middle right

-- in either of them
abbrev pub SeamTakes : ℕ → ℕ → Option Node → Node → Node → Type 0
SeamTakes from until middle left right = LeftTakes from until middle left right × RightTakes from until middle left right

-- in the left one, which loses its end, while the right one loses its beginning
abbrev pub BothTake : ℕ → ℕ → Option Node → Node → Node → Type 0
BothTake from until middle left right = (from ≤ len_of left) × (len_of left ≤ until) × (until < len_of left + len_of right)
    × TakesRange from (len_of left) middle left

-- the two sides are the old ones with middle in the place of the range
pub record AreSpliced (from until : ℕ) (middle : Option Node) (old_left old_right left right : Node) : Type 0 where
  pub left_sound : IsSound left
  pub right_sound : IsSound right
  pub text : cells left ++ cells right
      ≡ take from (cells old_left ++ cells old_right) ++ text middle ++ drop until (cells old_left ++ cells old_right)
  pub len : len_of left + len_of right ≡ from + text_len middle + (len_of old_left + len_of old_right - until)
  pub depth : max (depth_of left) (depth_of right) ≤ max (max (depth_of old_left) (depth_of old_right) + 1) (depth middle) + 1
  pub from_there : AreFrom (parts left ++ parts right) (parts old_left ++ parts old_right ++ parts_of middle)
  pub few : AtMostOneMore (parts old_left ++ parts old_right) (parts_of middle) (parts left ++ parts right)

-- the range lies inside the node, something is left, and the result is neither too long nor too deep
pub record IsEditable (from until : ℕ) (middle : Option Node) (node : Node) : Type 0 where
  pub sound : IsSound node
  pub middle_sound : IsCord middle
  pub order : from ≤ until
  pub inside : until ≤ len_of node
  pub not_empty : 0 < from + text_len middle + (len_of node - until)
  pub within_limit : from + text_len middle + (len_of node - until) ≤ MAX_LEN
  pub shallow : max (depth_of node) (depth middle) + 2 ≤ MAX_DEPTH

-- new is old with middle in the place of the range
pub record IsSplice (from until : ℕ) (middle : Option Node) (old new : Node) : Type 0 where
  pub sound : IsSound new
  pub text : cells new ≡ take from (cells old) ++ text middle ++ drop until (cells old)
  pub len : len_of new ≡ from + text_len middle + (len_of old - until)
  pub depth : depth_of new ≤ max (depth_of old) (depth middle) + 2
  pub from_there : AreFrom (parts new) (parts old ++ parts_of middle)
  pub few : AtMostOneMore (parts old) (parts_of middle) (parts new)
