use Rattle.std.proofs.Common.{length, ◌-◌, ◌≡◌, ◌≤◌, ℕ, take, drop}
use Rattle.std.specs.Prelude.{IsSomeAnd}
use Rattle.cord_io.specs.Device.{FileSystem, bytes_at}
use Rattle.cord_file.proofs.reading.read_range.Given as goal

-- so many bytes are read, of the file in each file system that is consistent with the files now
abbrev pub invariant-loop-done : goal.invariant-loop-done
invariant-loop-done g l = record {
  done : l.done ≤ length l.out;
  earlier : (file_system : FileSystem) → g.F.Files.consistent l.files file_system → g.F.Files.consistent l.initial.files file_system;
  opened : (n : ℕ) → g.F.Files.opened l.files n ≡ g.F.Files.opened l.initial.files n;
  count : g.F.Files.failures l.files ≡ g.F.Files.failures l.initial.files;
  bytes : (file_system : FileSystem) → g.F.Files.consistent l.files file_system → IsSomeAnd (g.F.Files.opened l.initial.files l.no.0)
      (λ reported. take l.done l.out ≡ take l.done (drop l.start (bytes_at file_system reported.0)));
}

abbrev pub decreases-loop-done : goal.decreases-loop-done
decreases-loop-done g l = length l.initial.out - l.done
