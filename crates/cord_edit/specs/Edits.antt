-- The list equations of edits, over every table that the arguments fit, which the result then fits too.
use Rattle.std.specs.Prelude.{◌≡◌, ℕ, ◌+◌, List, ◌++◌, take, drop, Option}
use Rattle.cord_io.specs.Table.{Table, Lengths}
use Rattle.cord_node.specs.declared.Node.{Node}
use Rattle.cord_node.specs.Tree.{Cell}
use Rattle.cord_node.specs.Tables.{AreHeldIn}
use Rattle.cord_core.specs.Cord.{bytes_of, CordFitsIn, CordFits}
use Rattle.cord_ec.specs.Grown.{bytes_of_cells, TextFits}

-- a list with another one in the place of the `count` members from `start` on, of those that there are
abbrev pub edited : {X : Type 0} → ℕ → ℕ → List X → List X → List X
edited start count middle xs = take start xs ++ middle ++ drop (start + count) xs

-- the text is that of the cord
pub record IsTextOf (cord : Option Node) (text : List Cell) : Type 0 where
  pub fits : (lengths : Lengths) → CordFitsIn lengths cord → AreHeldIn lengths text
  pub bytes : (t : Table) → CordFits t cord → bytes_of_cells t text ≡ bytes_of t cord

-- the text after is the text before with the bytes b in the place of `count` bytes from `start` on
pub record IsEdited (start count : ℕ) (b : List ℕ) (before after : List Cell) : Type 0 where
  pub fits : (lengths : Lengths) → AreHeldIn lengths before → AreHeldIn lengths after
  pub bytes : (t : Table) → TextFits t before → bytes_of_cells t after ≡ edited start count b (bytes_of_cells t before)

-- the same with the text of a cord
pub record IsEditedByCord (start count : ℕ) (cord : Option Node) (before after : List Cell) : Type 0 where
  pub fits : (lengths : Lengths) → AreHeldIn lengths before → CordFitsIn lengths cord → AreHeldIn lengths after
  pub bytes : (t : Table) → TextFits t before → CordFits t cord → bytes_of_cells t after
      ≡ edited start count (bytes_of t cord) (bytes_of_cells t before)
