-- The list equations of extensible cords, over every table that the arguments fit, which the result then fits too.
use Rattle.std.specs.Prelude.{◌≡◌, ℕ, List, ◌++◌, map, Option}
use Rattle.cord_io.specs.Table.{Table, Lengths}
use Rattle.cord_node.specs.declared.Node.{Node}
use Rattle.cord_node.specs.Tree.{Cell}
use Rattle.cord_node.specs.Tables.{lengths_of, byte_at, AreHeldIn}
use Rattle.cord_core.specs.Cord.{bytes_of, CordFitsIn, CordFits}

-- the bytes that a text has over a table
abbrev pub bytes_of_cells : Table → List Cell → List ℕ
bytes_of_cells t xs = map (byte_at t) xs

-- each place of the text that a source holds lies inside a source of the table
abbrev pub TextFits : Table → List Cell → Type 0
TextFits t xs = AreHeldIn (lengths_of t) xs

-- the text after is the text before and then the bytes b
pub record IsGrownBy (before after : List Cell) (b : List ℕ) : Type 0 where
  pub fits : (lengths : Lengths) → AreHeldIn lengths before → AreHeldIn lengths after
  pub bytes : (t : Table) → TextFits t before → bytes_of_cells t after ≡ bytes_of_cells t before ++ b

-- the text after is the text before and then that of the cord
pub record IsGrownByCord (before after : List Cell) (cord : Option Node) : Type 0 where
  pub fits : (lengths : Lengths) → AreHeldIn lengths before → CordFitsIn lengths cord → AreHeldIn lengths after
  pub bytes : (t : Table) → TextFits t before → CordFits t cord → bytes_of_cells t after ≡ bytes_of_cells t before ++ bytes_of t cord

-- the cord has the text
pub record IsCordOf (text : List Cell) (cord : Option Node) : Type 0 where
  pub fits : (lengths : Lengths) → AreHeldIn lengths text → CordFitsIn lengths cord
  pub bytes : (t : Table) → TextFits t text → bytes_of t cord ≡ bytes_of_cells t text
