-- Why a file can't be read.
use Rattle.std.specs.Prelude.{◌≡◌, ◌<◌, ℕ, Bool, true, false, List, length, None, Ok, Err, IsSomeAnd}
use Rattle.std.specs.declared.option.Option.{Option}
use Rattle.std.specs.declared.result.Result.{Result}
use Rattle.cord_shell.specs.declared.reader.ReadError.{ReadError}
use Rattle.cord_shell.specs.declared.reader.ReadError.TheVariants.{NotFound, TooBig, NoMemory, Failed}

-- what the cause says of the file; out of memory and a failure say nothing of it
abbrev pub HasCause : Option (List ℕ) → ℕ → ReadError → Type 0
HasCause file most NotFound = file ≡ None
HasCause file most TooBig = IsSomeAnd file (λ bytes. most < length bytes)
HasCause file most NoMemory = Unit {0}
HasCause file most Failed = Unit {0}

-- the files failed
abbrev pub is_failed : ReadError → Bool
is_failed Failed = true
is_failed _ = false

abbrev pub read_failed : {T : Type 0} → Result T ReadError → Bool
read_failed (Ok x) = false
read_failed (Err why) = is_failed why

abbrev pub IsFailedOrMemory : ReadError → Type 0
IsFailedOrMemory NotFound = ⊥
IsFailedOrMemory TooBig = ⊥
IsFailedOrMemory _ = Unit {0}
