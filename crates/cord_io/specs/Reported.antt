-- What files reported: one fact for each answer.
use Rattle.std.specs.Prelude.{◌≡◌, ℕ, List, [], ◌∷◌, length, take, drop, None, Some, IsSomeAnd}
use Rattle.std.specs.Coded.{coded_ℕ, coded_list, coded_option}
use Rattle.std.specs.declared.option.Option.{Option}
use Rattle.cord_io.specs.Device.{FileSystem, file_at, bytes_at}
use base.Stored.{Coded-set}
use mathlib.Core.HLevel.{×_prop, Unit-prop}

pub data Reported : Type 0 where
  -- the file at a path has a length
  has_len : List ℕ → ℕ → Reported
  -- there is no file at a path
  is_missing : List ℕ → Reported
  -- the file at a path has these bytes from a place on
  has_bytes : List ℕ → ℕ → List ℕ → Reported

-- the file system holds what one answer reported
abbrev pub Holds : FileSystem → Reported → Type 0
Holds file_system (has_len path len) = IsSomeAnd (file_at file_system path) (λ bytes. len ≡ length bytes)
Holds file_system (is_missing path) = file_at file_system path ≡ None
Holds file_system (has_bytes path start bytes) = bytes ≡ take (length bytes) (drop start (bytes_at file_system path))

-- the file system holds what each answer reported, newest first
abbrev pub Agrees : FileSystem → List Reported → Type 0
Agrees file_system [] = Unit {0}
Agrees file_system (reported ∷ before) = Holds file_system reported × Agrees file_system before

-- both have one proof at most
has_len-prop : (len : ℕ) (o : Option (List ℕ)) → IsProp (IsSomeAnd o (λ bytes. len ≡ length bytes))
has_len-prop len None = λ x y. absurd x
has_len-prop len (Some bytes) = Coded-set coded_ℕ len (length bytes)

pub Holds-prop : (file_system : FileSystem) (reported : Reported) → IsProp (Holds file_system reported)
Holds-prop file_system (has_len path len) = has_len-prop len (file_at file_system path)
Holds-prop file_system (is_missing path) = Coded-set (coded_option (coded_list coded_ℕ)) (file_at file_system path) None
Holds-prop file_system (has_bytes path start bytes) =
    Coded-set (coded_list coded_ℕ) bytes (take (length bytes) (drop start (bytes_at file_system path)))

pub Agrees-prop : (file_system : FileSystem) (reported : List Reported) → IsProp (Agrees file_system reported)
Agrees-prop file_system [] = Unit-prop
Agrees-prop file_system (reported ∷ before) = ×_prop (Holds-prop file_system reported) (Agrees-prop file_system before)
