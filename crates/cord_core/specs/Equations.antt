-- The list equations of the calls, over every table that the arguments fit, which the result then fits too.
use Rattle.std.specs.Prelude.{◌≡◌, ℕ, ◌+◌, ◌≤◌, ◌⊎◌, List, ◌++◌, length, take, drop, Option}
use Rattle.cord_io.specs.Table.{Table, Lengths, length_at}
use Rattle.cord_node.specs.declared.Node.{Node}
use Rattle.cord_node.specs.Tables.{lengths_of}
use Rattle.cord_core.specs.Cord.{bytes_of, CordFitsIn, CordFits, all_bytes, AllFitIn}

-- c fits every table and has the text b
pub record HasText (b : List ℕ) (c : Option Node) : Type 0 where
  pub fits : (lengths : Lengths) → CordFitsIn lengths c
  pub bytes : (t : Table) → bytes_of t c ≡ b

-- c is the n bytes from s on of a source that has them; nothing where n is 0
pub record IsSourceRange (id s n : ℕ) (c : Option Node) : Type 0 where
  pub fits : (lengths : Lengths) → (s + n ≤ length_at lengths id) ⊎ (n ≡ 0) → CordFitsIn lengths c
  pub bytes : (t : Table) → (s + n ≤ length (t id)) ⊎ (n ≡ 0) → bytes_of t c ≡ take n (drop s (t id))

-- c is the same text as x
pub record IsSameText (x c : Option Node) : Type 0 where
  pub fits : (lengths : Lengths) → CordFitsIn lengths x → CordFitsIn lengths c
  pub bytes : (t : Table) → CordFits t x → bytes_of t c ≡ bytes_of t x

-- c is the text of x and then that of y
pub record IsCatOf (x y c : Option Node) : Type 0 where
  pub fits : (lengths : Lengths) → CordFitsIn lengths x → CordFitsIn lengths y → CordFitsIn lengths c
  pub bytes : (t : Table) → CordFits t x → CordFits t y → bytes_of t c ≡ bytes_of t x ++ bytes_of t y

-- c is the text of x and then the bytes b
pub record IsAppended (x : Option Node) (b : List ℕ) (c : Option Node) : Type 0 where
  pub fits : (lengths : Lengths) → CordFitsIn lengths x → CordFitsIn lengths c
  pub bytes : (t : Table) → CordFits t x → bytes_of t c ≡ bytes_of t x ++ b

-- c is the texts of all in order
pub record IsAllOf (cords : List (Option Node)) (c : Option Node) : Type 0 where
  pub fits : (lengths : Lengths) → AllFitIn lengths cords → CordFitsIn lengths c
  pub bytes : (t : Table) → AllFitIn (lengths_of t) cords → bytes_of t c ≡ all_bytes t cords

-- c is at most n bytes of x from i on; nothing where i is at or past the end
pub record IsSubstring (i n : ℕ) (x c : Option Node) : Type 0 where
  pub fits : (lengths : Lengths) → CordFitsIn lengths x → CordFitsIn lengths c
  pub bytes : (t : Table) → CordFits t x → bytes_of t c ≡ take n (drop i (bytes_of t x))

-- c is x with y in the place of the n bytes from i on, of those that there are
pub record IsSpliced (i n : ℕ) (x y c : Option Node) : Type 0 where
  pub fits : (lengths : Lengths) → CordFitsIn lengths x → CordFitsIn lengths y → CordFitsIn lengths c
  pub bytes : (t : Table) → CordFits t x → CordFits t y → bytes_of t c
      ≡ take i (bytes_of t x) ++ bytes_of t y ++ drop (i + n) (bytes_of t x)
