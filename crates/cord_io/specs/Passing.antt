-- What a call reports of files that hand it on to the files inside.
use Rattle.std.specs.Prelude.{◌≡◌, ◌<◌, ◌≤◌, ℕ, List, length, take, drop, is_err, IfOk, OnErr, IsErrOf, None, IsSomeAnd}
use Rattle.std.specs.declared.result.Result.{Result}
use Rattle.cord_io.specs.Device.{FileSystem, file_at, bytes_at, count_after, open_failed, HandsOut}
use Rattle.cord_io.specs.declared.faults.OpenFault.{OpenFault}
use Rattle.cord_io.specs.declared.faults.OpenFault.TheVariants.{NotFound}
use Rattle.cord_io.specs.declared.faults.ReadFault.{ReadFault}
use Rattle.cord_io.specs.declared.reading.FileNo.{FileNo}
use Rattle.cord_io.specs.declared.reading.Files.{Ghosts}

-- opening a path: no file system is consistent that wasn't so before, and all are where the device is steady, a failure is counted, a
-- number is handed out or none, and over each consistent file system the file is as long as was reported, or isn't there
abbrev pub ReportsOpening : {F : Type 0} → Ghosts F → F → F → List ℕ → Result (FileNo × ℕ) OpenFault → Type 0
ReportsOpening {F} files old new path result = record {
  earlier : (file_system : FileSystem) → files.consistent new file_system → files.consistent old file_system;
  later : files.steady → (file_system : FileSystem) → files.consistent old file_system → files.consistent new file_system;
  count : files.failures new ≡ count_after (open_failed result) (files.failures old);
  opened : IfOk result (λ r. HandsOut (files.opened old) (files.opened new) r.0.0 path r.1);
  none_opened : OnErr result ((n : ℕ) → files.opened new n ≡ files.opened old n);
  found : (file_system : FileSystem) → files.consistent new file_system →
      IfOk result (λ r. IsSomeAnd (file_at file_system path) (λ bytes. r.1 ≡ length bytes));
  not_found : (file_system : FileSystem) → files.consistent new file_system → IsErrOf result NotFound → file_at file_system path ≡ None;
}

-- reading a file from a place on: no file system is consistent that wasn't so before, and all are where the device is steady, a failure is
-- counted, no number is handed out, and the bytes that were read are those of the file in each consistent file system
abbrev pub ReportsReading : {F : Type 0} → Ghosts F → F → F → ℕ → ℕ → List ℕ → Result ℕ ReadFault → Type 0
ReportsReading {F} files old new number start out result = record {
  earlier : (file_system : FileSystem) → files.consistent new file_system → files.consistent old file_system;
  later : files.steady → (file_system : FileSystem) → files.consistent old file_system → files.consistent new file_system;
  count : files.failures new ≡ count_after (is_err result) (files.failures old);
  opened : (n : ℕ) → files.opened new n ≡ files.opened old n;
  some : IfOk result (λ k. (0 < k) × (k ≤ length out));
  bytes : (file_system : FileSystem) → files.consistent new file_system → IfOk result (λ k.
      IsSomeAnd (files.opened old number) (λ reported. take k out ≡ take k (drop start (bytes_at file_system reported.0))));
}
