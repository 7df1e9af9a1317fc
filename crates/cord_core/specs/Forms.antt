-- The form of a cord that is made of one part.
use Rattle.std.specs.Prelude.{◌≡◌, ℕ, List, [], length, Option, Some, None}
use Rattle.std.specs.Rc.{rc_slice_items}
use Rattle.cord_node.specs.declared.Node.{Node}
use Rattle.cord_node.specs.declared.Node.TheVariants.{Leaf, Run, Func, Cat'}

-- one `Leaf` whose bytes are these, the whole of them; empty where there are none
abbrev pub IsLeafOf : List ℕ → Option Node → Type 0
IsLeafOf b None = b ≡ []
IsLeafOf b (Some (Leaf len bytes start mark)) = (rc_slice_items bytes ≡ b) × (start ≡ 0) × (len ≡ length b)
IsLeafOf b (Some (Run byte len)) = ⊥
IsLeafOf b (Some (Func id len start)) = ⊥
IsLeafOf b (Some (Cat' mark depth len p left q right count)) = ⊥

-- one `Run` of n times the byte; empty where n is 0
abbrev pub IsRunOf : ℕ → ℕ → Option Node → Type 0
IsRunOf b n None = n ≡ 0
IsRunOf b n (Some (Leaf len bytes start mark)) = ⊥
IsRunOf b n (Some (Run byte len)) = (byte ≡ b) × (len ≡ n)
IsRunOf b n (Some (Func id len start)) = ⊥
IsRunOf b n (Some (Cat' mark depth len p left q right count)) = ⊥

-- one `Func` of n bytes of the source from s on; empty where n is 0
abbrev pub IsFuncOf : ℕ → ℕ → ℕ → Option Node → Type 0
IsFuncOf i s n None = n ≡ 0
IsFuncOf i s n (Some (Leaf len bytes start mark)) = ⊥
IsFuncOf i s n (Some (Run byte len)) = ⊥
IsFuncOf i s n (Some (Func id len start)) = (id.0 ≡ i) × (start ≡ s) × (len ≡ n)
IsFuncOf i s n (Some (Cat' mark depth len p left q right count)) = ⊥
