-- Which error of a call on files a fault becomes.
use Rattle.cord_io.specs.declared.faults.CordError.{CordError}
use Rattle.cord_io.specs.declared.faults.CordError.TheVariants as cord
use Rattle.cord_io.specs.declared.faults.OpenFault.{OpenFault}
use Rattle.cord_io.specs.declared.faults.OpenFault.TheVariants.{NotFound, Failed}
use Rattle.cord_file.specs.declared.faults.FileError.{FileError}
use Rattle.cord_file.specs.declared.faults.FileError.TheVariants.{NoFile, TooLong, ReadFailed, TooManyFiles, NoMemory}
use Rattle.std.specs.Prelude.{Bool, true, false, Ok, Err}
use Rattle.std.specs.declared.result.Result.{Result}

-- a path that isn't there is no file, every other fault of opening a failure
abbrev pub opening_error : OpenFault → FileError
opening_error NotFound = NoFile
opening_error Failed = ReadFailed

-- why a cord over a file wasn't made
abbrev pub file_error_of : CordError → FileError
file_error_of cord.NoMemory = NoMemory
file_error_of cord.TooLong = TooLong
file_error_of cord.ReadFailed = ReadFailed
file_error_of cord.WriteFailed = ReadFailed

-- whether it is a failure of the device
abbrev pub is_failure : FileError → Bool
is_failure NoFile = false
is_failure TooLong = false
is_failure ReadFailed = true
is_failure TooManyFiles = false
is_failure NoMemory = false

-- whether a call answered a failure of the device
abbrev pub has_failed : {T : Type 0} → Result T FileError → Bool
has_failed (Ok x) = false
has_failed (Err e) = is_failure e
