-- Cords that stand many times.
use Rattle.std.specs.Prelude.{◌≡◌, ℕ, Option}
use Rattle.std.specs.List.{repeat}
use Rattle.cord_io.specs.Table.{Table, Lengths}
use Rattle.cord_node.specs.declared.Node.{Node}
use Rattle.cord_core.specs.Cord.{bytes_of, CordFitsIn, CordFits}

-- c is the text of x so many times
pub record IsRepeated (times : ℕ) (x c : Option Node) : Type 0 where
  pub fits : (lengths : Lengths) → CordFitsIn lengths x → CordFitsIn lengths c
  pub bytes : (t : Table) → CordFits t x → bytes_of t c ≡ repeat times (bytes_of t x)
