-- How far walks have come.
use Rattle.std.specs.Prelude.{◌≡◌, ℕ, ◌+◌, Bool, List, Option, Some, None, is_err}
use Rattle.std.specs.Result.{IfOk, OnErr}
use Rattle.std.specs.declared.result.Result.{Result}
use Rattle.cord_io.specs.Device.{FileSystem, count_after}
use Rattle.cord_io.specs.Frames.{LeavesSource}
use Rattle.cord_io.specs.Table.{Table}
use Rattle.cord_io.specs.declared.sources.Source.{Ghosts}
use Rattle.cord_iter.specs.Walk.{walk, WalkedPrefix}

-- how many places there are from the beginning up to an index, with it
abbrev pub places_up_to : Option ℕ → ℕ
places_up_to None = 0
places_up_to (Some i) = i + 1

-- a visitor in state a walked over a text, over the tables of a source, up to state b: until it stopped, or after a read that failed over
-- a prefix
pub record Walks {S V E : Type 0} (s : Ghosts S) (step : V → ℕ → V × Bool) (text : Table → List ℕ) (old new : S) (a b : V)
    (result : Result Bool E) : Type 0 where
  pub walked : (file_system : FileSystem) → s.consistent new file_system →
      IfOk result (λ stopped. walk step a (text (s.table old file_system)) ≡ (b, stopped))
  pub prefix : (file_system : FileSystem) → s.consistent new file_system →
      OnErr result (WalkedPrefix step a b (text (s.table old file_system)))
  pub count : s.failures new ≡ count_after (is_err result) (s.failures old)
  pub source : LeavesSource s old new
