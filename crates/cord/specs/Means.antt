-- What a cord means over the sources of a table.
use Rattle.std.specs.Prelude.{◌≡◌, ℕ, List, Option}
use Rattle.cord_io.specs.Table.{Table, Lengths, HasLengths}
use Rattle.cord_node.specs.declared.Node.{Node}
use Rattle.cord_core.specs.Cord.{bytes_of, CordFitsIn}

-- the cord can be read over sources of these lengths, and then has these bytes
pub record Means (lengths : Lengths) (bytes : Table → List ℕ) (c : Option Node) : Type 0 where
  pub fits : CordFitsIn lengths c
  pub text : (t : Table) → HasLengths lengths t → bytes_of t c ≡ bytes t
