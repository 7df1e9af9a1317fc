-- When the parts of a node come from other nodes.
use Rattle.std.specs.Prelude.{◌≡◌, ℕ, ◌+◌, ◌≤◌, ◌⊎◌, List, [], ◌∷◌, ◌++◌, length, ⊤}
use Rattle.std.specs.Rc.{rc_slice_items}
pub use Rattle.cord_mark.specs.Part.{Part, leaf_part, run_part, func_part}
use Rattle.cord_node.specs.declared.Node.{Node}
use Rattle.cord_node.specs.declared.Node.TheVariants.{Leaf, Run, Func, Cat'}
use Rattle.cord_node.specs.declared.TheConstants.{SMALL_LEN}

-- the parts of a node, from left to right
abbrev pub parts : Node → List Part
parts (Leaf len bytes start mark) = leaf_part (rc_slice_items bytes) start len ∷ []
parts (Run byte len) = run_part byte len ∷ []
parts (Func id len start) = func_part id.0 start len ∷ []
parts (Cat' mark depth len p left q right count) = parts left ++ parts right

-- a leaf of at most SMALL_LEN bytes
abbrev pub IsSmall : Part → Type 0
IsSmall (leaf_part bytes start len) = len ≤ SMALL_LEN
IsSmall (run_part byte len) = ⊥
IsSmall (func_part id start len) = ⊥

-- from a to a + m lies inside from b to b + n
abbrev pub IsInside : ℕ → ℕ → ℕ → ℕ → Type 0
IsInside a m b n = (b ≤ a) × (a + m ≤ b + n)

-- the first part is a range of the second one
abbrev pub IsRangeOf : Part → Part → Type 0
IsRangeOf (leaf_part bytes start len) (leaf_part bytes' start' len') = (bytes ≡ bytes') × IsInside start len start' len'
IsRangeOf (run_part byte len) (run_part byte' len') = (byte ≡ byte') × (len ≤ len')
IsRangeOf (func_part id start len) (func_part id' start' len') = (id ≡ id') × IsInside start len start' len'
IsRangeOf _ _ = ⊥

-- the part is a small leaf, or a range of one of these
abbrev pub IsFrom : Part → List Part → Type 0
IsFrom p [] = IsSmall p
IsFrom p (q ∷ qs) = IsRangeOf p q ⊎ IsFrom p qs

-- each part is a small leaf, or a range of one of these
abbrev pub AreFrom : List Part → List Part → Type 0
AreFrom [] qs = ⊤
AreFrom (p ∷ ps) qs = IsFrom p qs × AreFrom ps qs

-- no more parts than before, and each from there
pub record PartsFrom (old new : List Part) : Type 0 where
  pub no_more : length new ≤ length old
  pub from_there : AreFrom new old
