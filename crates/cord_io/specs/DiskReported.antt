-- What the machine's files reported, call by call.
use Rattle.std.specs.Prelude.{ℕ, List, ◌∷◌, Ok, Err, None, Some}
use Rattle.std.specs.declared.option.Option.{Option}
use Rattle.std.specs.declared.result.Result.{Result}
use Rattle.cord_io.specs.Device.{FileSystem}
use Rattle.cord_io.specs.Given.{AgreesWithReaders}
use Rattle.cord_io.specs.Reported.{Reported, has_len, is_missing, Agrees}
use Rattle.cord_io.specs.ReadAhead.{after_asking}
use Rattle.cord_io.specs.declared.reading.FileNo.{FileNo}
use Rattle.cord_io.specs.declared.faults.OpenFault.{OpenFault}
use Rattle.cord_io.specs.declared.faults.OpenFault.TheVariants.{NotFound, Failed}
use Rattle.cord_io.specs.declared.disk.DiskFiles.{DiskFiles}

-- every answer, newest first
abbrev pub reported_by : {R F E : Type 0} → DiskFiles R F E → List Reported
reported_by files = files.answers.trace.reported

-- what was reported after a path was opened with this answer
abbrev pub after_opening : List ℕ → Result (FileNo × ℕ) OpenFault → List Reported → List Reported
after_opening path (Ok r) reported = has_len path r.1 ∷ reported
after_opening path (Err NotFound) reported = is_missing path ∷ reported
after_opening path (Err Failed) reported = reported

-- what was reported after a read from a place on, by what was reported of its number: it filled the prefix of out
abbrev pub after_reading : {E : Type 0} → Option (List ℕ × ℕ) → ℕ → List ℕ → Result ℕ E → List Reported → List Reported
after_reading None start out r reported = reported
after_reading (Some file) start out r reported = after_asking file.0 start out r reported

-- the file system agrees with each answer of the machine: a path at which no file is, and of the files that are open their lengths and
-- bytes
abbrev pub AgreesWithMachine : {R F E : Type 0} → FileSystem → DiskFiles R F E → Type 0
AgreesWithMachine file_system files = Agrees file_system files.answers.machine.trace.reported × AgreesWithReaders file_system
    files.answers.opened.items
