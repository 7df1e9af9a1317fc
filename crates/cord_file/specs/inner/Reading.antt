-- What calls that read opened files take and leave.
use Rattle.std.specs.Prelude.{◌≡◌, ℕ, ◌+◌, ◌%◌, ◌<◌, ◌≤◌, Bool, List, IsSomeAnd, OnOk, is_err, slice_get}
use Rattle.std.specs.declared.option.Option.{Option}
use Rattle.std.specs.declared.result.Result.{Result}
use Rattle.cord_io.specs.Device.{FileSystem, count_after}
use Rattle.cord_io.specs.declared.faults.ReadFault.{ReadFault}
use Rattle.cord_io.specs.declared.reading.Files.{Ghosts}
use Rattle.cord_file.specs.Opening.{OpensNone}
use Rattle.cord_file.specs.Sources.{device_in}
use Rattle.cord_file.specs.declared.blocks.TheConstants.{BLOCK}
use Rattle.cord_file.specs.declared.files.OpenFile.{OpenFile}
use Rattle.cord_file.specs.declared.sources.Sources.{Sources}
use Rattle.cord_file.specs.inner.Blocks.{AreRead}

-- so many bytes from a place on lie inside the opened file
abbrev pub IsInsideFile : Option OpenFile → ℕ → ℕ → Type 0
IsInsideFile slot start count = IsSomeAnd slot (λ file. start + count ≤ file.len)

-- they lie in one block of it, and there are some
pub record IsInsideBlock (slot : Option OpenFile) (start count : ℕ) : Type 0 where
  pub inside : IsInsideFile slot start count
  pub some : 0 < count
  pub part : start % BLOCK + count ≤ BLOCK

-- a device opened no file, makes no file system consistent that wasn't so before, and counted its failure
pub record LeavesDevice {F : Type 0} (ghosts : Ghosts F) (failed : Bool) (old new : F) : Type 0 where
  pub earlier : (file_system : FileSystem) → ghosts.consistent new file_system → ghosts.consistent old file_system
  pub opened : OpensNone (ghosts.opened old) (ghosts.opened new)
  pub count : ghosts.failures new ≡ count_after failed (ghosts.failures old)

-- so did the device of a table, whose files stay
pub record LeavesFiles {F : Type 0} {ghosts : Ghosts F} (failed : Bool) (old new : Sources F ghosts) : Type 0 where
  pub device : LeavesDevice ghosts failed (device_in old) (device_in new)
  pub open_files : new.open_files.items ≡ old.open_files.items

-- where it didn't fail, `out` has the bytes from a place on of the file that was opened at `place`
pub record Reads {F : Type 0} {ghosts : Ghosts F} (place start : ℕ) (old new : Sources F ghosts) (out : List ℕ)
    (result : Result (Unit {0}) ReadFault) : Type 0 where
  pub files : LeavesFiles (is_err result) old new
  pub bytes : (file_system : FileSystem) → ghosts.consistent (device_in new) file_system →
      OnOk result (AreRead file_system (slice_get old.open_files.items place) start out)
