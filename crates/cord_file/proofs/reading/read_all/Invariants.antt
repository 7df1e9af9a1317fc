use Rattle.std.proofs.Common.{◌-◌, ◌≡◌, ◌≤◌, ◌<◌, ℕ}
use Rattle.std.specs.Prelude.{vec_len}
use Rattle.cord_io.specs.Device.{FileSystem}
use Rattle.cord_file.specs.inner.Blocks.{BeginsWithFile}
use Rattle.cord_file.proofs.reading.read_all.Given as goal

-- so many bytes are read, of the file in each file system that is consistent with the files now
abbrev pub invariant-loop-done : goal.invariant-loop-done
invariant-loop-done g l = record {
  room : 0 < l.room;
  done : l.done ≤ vec_len l.bytes;
  most : vec_len l.bytes ≤ l.len;
  earlier : (file_system : FileSystem) → g.F.Files.consistent l.files file_system → g.F.Files.consistent l.initial.files file_system;
  opened : (n : ℕ) → g.F.Files.opened l.files n ≡ g.F.Files.opened l.initial.files n;
  count : g.F.Files.failures l.files ≡ g.F.Files.failures l.initial.files;
  bytes : (file_system : FileSystem) → g.F.Files.consistent l.files file_system → BeginsWithFile file_system
      (g.F.Files.opened l.initial.files l.no.0) l.done
      l.bytes.items;
}

abbrev pub decreases-loop-done : goal.decreases-loop-done
decreases-loop-done g l = l.len - l.done
