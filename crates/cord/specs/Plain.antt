-- Texts over no files: their bytes are the same over every source.
use Rattle.std.specs.Prelude.{◌≡◌, ℕ, List, [], length, Option, Some}
use Rattle.cord_io.specs.Table.{Table, Lengths}
use Rattle.cord_node.specs.declared.Node.{Node}
use Rattle.cord_node.specs.Tree.{Cell}
use Rattle.cord_node.specs.Tables.{AreHeldIn}
use Rattle.cord_core.specs.Cord.{text_len, IsCord, bytes_of}
use Rattle.cord_core.specs.Equations.{HasText}
use Rattle.cord_ec.specs.Grown.{bytes_of_cells}

-- a table whose sources are all empty
abbrev pub no_table : Table
no_table id = []

-- the lengths of its sources
abbrev pub no_lengths : Lengths
no_lengths id = Some 0

-- the bytes of a cord over no files
abbrev pub plain_bytes : Option Node → List ℕ
plain_bytes c = bytes_of no_table c

-- it fits every table, and has the same bytes over each, as many as it stores
pub record IsPlain (c : Option Node) : Type 0 where
  pub sound : IsCord c
  pub len : text_len c ≡ length (plain_bytes c)
  pub over : HasText (plain_bytes c) c

-- the bytes of a growing text over no files
abbrev pub grown_bytes : List Cell → List ℕ
grown_bytes xs = bytes_of_cells no_table xs

-- a growing text with no cell in a file
pub record IsPlainGrowth (xs : List Cell) : Type 0 where
  pub fits : (lengths : Lengths) → AreHeldIn lengths xs
  pub bytes : (t : Table) → bytes_of_cells t xs ≡ grown_bytes xs
