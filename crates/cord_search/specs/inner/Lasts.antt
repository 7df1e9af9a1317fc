-- The last place so far in a search from the back.
use Rattle.std.specs.Prelude.{◌≡◌, ℕ, ◌+◌, List, Option, Some, None}
use Rattle.cord_io.specs.Table.{Table}
use Rattle.cord_node.specs.declared.Node.{Node}
use Rattle.cord_core.specs.Cord.{bytes_of}
use Rattle.cord_core.specs.Texts.{StandsAt}

-- the text was found right before `low`, or nowhere yet
abbrev pub IsLastSoFar : Table → Option Node → List ℕ → Option ℕ → ℕ → Type 0
IsLastSoFar t x s (Some p) low = (low ≡ p + 1) × StandsAt (bytes_of t x) s p
IsLastSoFar t x s None low = low ≡ 0
