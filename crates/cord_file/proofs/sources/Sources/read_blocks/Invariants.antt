use Rattle.std.proofs.Common.{ℕ, length, ◌-◌, ◌≡◌, ◌≤◌, take, drop}
use Rattle.std.specs.Prelude.{slice_get, IsSomeAnd}
use Rattle.std.specs.String.{string_bytes}
use Rattle.cord_io.specs.Device.{FileSystem, bytes_at}
use Rattle.cord_file.proofs.sources.Sources.read_blocks.Given as goal

-- so many bytes are read, of the file in each file system that is consistent with the files now
abbrev pub invariant-loop-done : goal.invariant-loop-done
invariant-loop-done g l = record {
  done : l.done ≤ length l.out;
  earlier : (file_system : FileSystem) → g.F.Files.consistent l.self.files file_system → g.F.Files.consistent l.initial.self.files
      file_system;
  open_files : l.self.open_files.items ≡ l.initial.self.open_files.items;
  opened : (n : ℕ) → g.F.Files.opened l.self.files n ≡ g.F.Files.opened l.initial.self.files n;
  count : g.F.Files.failures l.self.files ≡ g.F.Files.failures l.initial.self.files;
  bytes : (file_system : FileSystem) → g.F.Files.consistent l.self.files file_system →
      IsSomeAnd (slice_get l.initial.self.open_files.items l.place)
      (λ file. take l.done l.out ≡ take l.done (drop l.start (bytes_at file_system (string_bytes file.path))));
}

abbrev pub decreases-loop-done : goal.decreases-loop-done
decreases-loop-done g l = length l.initial.out - l.done
