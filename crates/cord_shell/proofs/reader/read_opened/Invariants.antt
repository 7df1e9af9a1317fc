use Rattle.std.proofs.Common.{length, ◌-◌, ◌≡◌, take, vec_len, ℕ}
use Rattle.std.specs.Prelude.{IsSomeAnd}
use Rattle.cord_io.specs.Device.{FileSystem, bytes_at}
use Rattle.cord_shell.proofs.reader.read_opened.Given as goal

abbrev pub invariant-reading : goal.invariant-reading
invariant-reading g l =
    let consistent = g.F.Files.consistent in
    let opened = g.F.Files.opened in
    record {
      earlier : (file_system : FileSystem) → consistent l.files file_system → consistent l.initial.files file_system;
      kept : (n : ℕ) → opened l.files n ≡ opened l.initial.files n;
      count : g.F.Files.failures l.files ≡ g.F.Files.failures l.initial.files;
      read : (file_system : FileSystem) → consistent l.files file_system → IsSomeAnd (opened l.initial.files l.no.0)
          (λ reported. l.bytes.items ≡ take (length l.bytes.items) (bytes_at file_system reported.0));
    }

abbrev pub decreases-reading : goal.decreases-reading
decreases-reading g l = l.len - vec_len l.bytes
