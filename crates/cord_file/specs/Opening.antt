-- What opening a path does to a table of files, and when it is refused.
use Rattle.std.specs.Prelude.{◌≡◌, ℕ, ◌<◌, ◌≤◌, List, [], ◌∷◌, ◌++◌, length, Some, None, ⊤, IsSome, IsSomeAnd}
use Rattle.std.specs.declared.option.Option.{Option}
use Rattle.cord_io.specs.declared.TheConstants.{MAX_LEN}
use Rattle.cord_io.specs.Device.{FileSystem, file_at, HandsOut}
use Rattle.cord_file.specs.declared.TheConstants.{MAX_FILES}
use Rattle.cord_file.specs.declared.faults.FileError.{FileError}
use Rattle.cord_file.specs.declared.faults.FileError.TheVariants.{NoFile, TooLong, ReadFailed, TooManyFiles, NoMemory}
use Rattle.cord_file.specs.FileTable.{Opened, lengths_in, table_in, id_in}

-- each source that was there stays: its length, its text and its id
pub record Grows (old new : Opened) : Type 0 where
  pub lengths : (id : ℕ) → IsSome (lengths_in old id) → lengths_in new id ≡ lengths_in old id
  pub texts : (file_system : FileSystem) (id : ℕ) → IsSome (lengths_in old id) → table_in new file_system id ≡ table_in old file_system id
  pub ids : (path : List ℕ) (id : ℕ) → id_in old path ≡ Some id → id_in new path ≡ Some id

-- the path is open as this source of this length: an opened one stays, another one is added after all sources
pub record Opens (old new : Opened) (path : List ℕ) (id len : ℕ) : Type 0 where
  pub known : id_in new path ≡ Some id
  pub reported : lengths_in new id ≡ Some len
  pub limit : len ≤ MAX_LEN
  pub again : IsSome (id_in old path) → new ≡ old
  pub fresh : id_in old path ≡ None → (length old < MAX_FILES) × (new ≡ old ++ (path, len) ∷ [])

-- over a file system the source has the bytes at the path, as many as was reported
abbrev pub HoldsFile : FileSystem → Opened → List ℕ → ℕ → ℕ → Type 0
HoldsFile file_system opened path id len = (file_at file_system path ≡ Some (table_in opened file_system id)) ×
    (len ≡ length (table_in opened file_system id))

-- the path and the length reported of each number of a device
abbrev pub FileNumbers : Type 0
FileNumbers = ℕ → Option (List ℕ × ℕ)

-- the device has opened what it had opened before
abbrev pub OpensNone : FileNumbers → FileNumbers → Type 0
OpensNone old new = (n : ℕ) → new n ≡ old n

-- the device opened one file, at this path and of this length
abbrev pub OpensOne : FileNumbers → FileNumbers → List ℕ → ℕ → Type 0
OpensOne old new path len = (no : ℕ) × HandsOut old new no path len

-- after this refusal the device has opened no file, unless that was too long or found no memory to be kept
abbrev pub IsUnopened : FileNumbers → FileNumbers → FileError → Type 0
IsUnopened old new TooManyFiles = OpensNone old new
IsUnopened old new NoFile = OpensNone old new
IsUnopened old new ReadFailed = OpensNone old new
IsUnopened old new TooLong = ⊤
IsUnopened old new NoMemory = ⊤

-- the path isn't open, and there is room for one more
abbrev pub HasRoomFor : Opened → List ℕ → Type 0
HasRoomFor opened path = (id_in opened path ≡ None) × (length opened < MAX_FILES)

-- why a path wasn't opened, by the table: the first of these that applies, but out of memory may come in the place of any answer
abbrev pub IsOpenRefusal : Opened → List ℕ → FileError → Type 0
IsOpenRefusal opened path TooManyFiles = (id_in opened path ≡ None) × (length opened ≡ MAX_FILES)
IsOpenRefusal opened path NoFile = HasRoomFor opened path
IsOpenRefusal opened path ReadFailed = HasRoomFor opened path
IsOpenRefusal opened path TooLong = HasRoomFor opened path
IsOpenRefusal opened path NoMemory = ⊤

-- the same, by a file system
abbrev pub IsRefusalOver : FileSystem → List ℕ → FileError → Type 0
IsRefusalOver file_system path TooManyFiles = ⊤
IsRefusalOver file_system path NoFile = file_at file_system path ≡ None
IsRefusalOver file_system path ReadFailed = ⊤
IsRefusalOver file_system path TooLong = IsSomeAnd (file_at file_system path) (λ bytes. MAX_LEN < length bytes)
IsRefusalOver file_system path NoMemory = ⊤
