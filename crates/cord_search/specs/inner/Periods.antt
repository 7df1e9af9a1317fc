-- What texts have in common, and texts that repeat themselves.
use Rattle.std.specs.Prelude.{◌≢◌, ℕ, ◌+◌, ◌-◌, ◌<◌, ◌≤◌, List, Option, IfSome, slice_index}
use Rattle.cord_io.specs.Table.{Table}
use Rattle.cord_node.specs.declared.Node.{Node}
use Rattle.cord_core.specs.Cord.{text_len, bytes_of}
use Rattle.cord_search.specs.inner.Pieces.{AreSame, IsPieceOf}
use Rattle.cord_search.specs.declared.periods.Repeats.{Repeats}

-- the first n bytes from two places are the same, and of `most` no more
pub record IsCommon (t : Table) (x : Option Node) (i : ℕ) (y : Option Node) (j most n : ℕ) : Type 0 where
  pub within : n ≤ most
  pub same : AreSame t x i y j n
  pub differ : n < most → slice_index (bytes_of t x) (i + n) ≢ slice_index (bytes_of t y) (j + n)

-- a text repeats itself so far, and no further
abbrev pub HasPeriods : Table → Option Node → Repeats → Type 0
HasPeriods t s r = IsCommon t s 0 s r.period (text_len s - r.period) r.count

-- a text begins with these bytes, and repeats itself so far
pub record IsKnown (t : Table) (s : Option Node) (bytes : List ℕ) (far : Option Repeats) : Type 0 where
  pub prefix : IsPieceOf t s 0 bytes
  pub repeats : IfSome far (HasPeriods t s)
