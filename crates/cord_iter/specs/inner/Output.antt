-- The bytes of a text over a source, and prefixes of them.
use Rattle.std.specs.Prelude.{◌≡◌, ℕ, ◌≤◌, List, length}
use Rattle.std.specs.Result.{OnOk, OnErr}
use Rattle.std.specs.declared.result.Result.{Result}
use Rattle.cord_io.specs.Device.{FileSystem}
use Rattle.cord_io.specs.Frames.{LeavesSource}
use Rattle.cord_io.specs.Table.{Table}
use Rattle.cord_io.specs.declared.faults.CordError.{CordError}
use Rattle.cord_io.specs.declared.sources.Source as sources
use Rattle.cord_io.specs.declared.writing.Sink as sinks
use Rattle.cord_iter.specs.Output.{IsPrefixOf, Takes, CountsFaults, failures_of}

-- the n bytes of a text over a source: so many, and the text over the table of each consistent file system
pub record IsTextRead (consistent : FileSystem → Type 0) (table : FileSystem → Table) (n : ℕ) (text : Table → List ℕ) (out : List ℕ) :
    Type 0 where
  pub len : length out ≡ n
  pub whole : (file_system : FileSystem) → consistent file_system → out ≡ text (table file_system)

-- a prefix of them
pub record IsPrefixOver (consistent : FileSystem → Type 0) (table : FileSystem → Table) (n : ℕ) (text : Table → List ℕ) (out : List ℕ) :
    Type 0 where
  pub len : length out ≤ n
  pub prefix : (file_system : FileSystem) → consistent file_system → IsPrefixOf (text (table file_system)) out

-- a sink in state a took the n bytes of a text over a source up to state b, or a prefix of them where a device failed, and wasn't ended
pub record Puts {S W : Type 0} (s : sources.Ghosts S) (w : sinks.Ghosts W) (n : ℕ) (text : Table → List ℕ) (old new : S) (a b : W)
    (result : Result (Unit {0}) CordError) : Type 0 where
  pub took : OnOk result (Takes (IsTextRead (s.consistent new) (s.table old) n text) (w.taken a) (w.taken b))
  pub prefix : OnErr result (Takes (IsPrefixOver (s.consistent new) (s.table old) n text) (w.taken a) (w.taken b))
  pub faults : CountsFaults (failures_of s w old a) (failures_of s w new b) result
  pub source : LeavesSource s old new
  pub finished : w.finished b ≡ w.finished a
