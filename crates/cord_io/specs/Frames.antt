-- What calls that read a source leave as it was.
use Rattle.std.specs.Prelude.{◌≡◌}
use Rattle.cord_io.specs.Device.{FileSystem}
use Rattle.cord_io.specs.declared.sources.Source.{Ghosts}

-- a source reports the same lengths, has the same table, and makes no file system consistent that wasn't so before
abbrev pub LeavesSource : {S : Type 0} → Ghosts S → S → S → Type 0
LeavesSource source old new = record {
  lengths : source.lengths new ≡ source.lengths old;
  table : source.table new ≡ source.table old;
  earlier : (file_system : FileSystem) → source.consistent new file_system → source.consistent old file_system;
}
