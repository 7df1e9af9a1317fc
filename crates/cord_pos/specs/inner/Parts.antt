-- Bytes of nodes.
use Rattle.std.specs.Prelude.{◌≡◌, ℕ, Some, slice_get}
use Rattle.cord_io.specs.Table.{Table}
use Rattle.cord_node.specs.declared.Node.{Node}
use Rattle.cord_node.specs.Tables.{bytes_over}

-- the byte of a node's text at a place, over a table
abbrev pub HasByte : Table → Node → ℕ → ℕ → Type 0
HasByte t n place b = slice_get (bytes_over t n) place ≡ Some b
