-- What the machine gave: the files at their paths, and the paths at which no file is.
use Rattle.std.specs.Prelude.{◌≡◌, ℕ, List, slice_get, Some}
use Rattle.cord_io.specs.Device.{FileSystem}
use Rattle.cord_io.specs.Reported.{Reported, Agrees, Agrees-prop}
use Rattle.cord_io.specs.declared.opened.OpenedFile.{OpenedFile}
use mathlib.Core.HLevel.{Π_prop, →_prop}

-- the file system agrees with all that the machine gave of each of the files
abbrev pub AgreesWithReaders : {F : Type 0} → FileSystem → List (OpenedFile F) → Type 0
AgreesWithReaders file_system files = (n : ℕ) (file : OpenedFile _) → slice_get files n ≡ Some file → Agrees file_system
    file.reader.trace.reported

-- what was reported is what the machine gave, of paths at which no file is and of the files
abbrev pub IsGiven : {F : Type 0} → List Reported → List (OpenedFile F) → List Reported → Type 0
IsGiven missing files reported = (file_system : FileSystem) → Agrees file_system missing → AgreesWithReaders file_system files → Agrees
    file_system reported

pub IsGiven-prop : {F : Type 0} (missing : List Reported) (files : List (OpenedFile F)) (reported : List Reported) → IsProp
    (IsGiven missing files reported)
IsGiven-prop missing files reported = Π_prop (λ file_system. →_prop (→_prop (Agrees-prop file_system reported)))
