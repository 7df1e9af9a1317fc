-- Bytes of a file that were read ahead.
use Rattle.std.specs.Prelude.{◌≡◌, ℕ, ◌≤◌, List, length, take, drop}
use Rattle.cord_io.specs.Device.{FileSystem, bytes_at}
use Rattle.cord_io.specs.Reported.{Reported, Agrees}

-- the list begins with so many bytes of the file at a path from a place on, by each file system with which all that was given agrees
pub record IsAhead (reported : List Reported) (path : List ℕ) (start count : ℕ) (bytes : List ℕ) : Type 0 where
  pub fits : count ≤ length bytes
  pub same : (file_system : FileSystem) → Agrees file_system reported → take count bytes ≡ take count
      (drop start (bytes_at file_system path))
