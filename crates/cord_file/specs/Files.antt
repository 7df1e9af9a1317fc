-- The opened files of a table, as the device reported them.
use Rattle.std.specs.Prelude.{◌≡◌, ℕ, zero, suc, ◌≤◌, List, [], ◌∷◌, length, map, slice_get, Some, refl}
use Rattle.std.specs.String.{string_bytes}
use Rattle.std.specs.declared.option.Option.{Option}
use Rattle.cord_io.specs.declared.TheConstants.{MAX_LEN}
use Rattle.cord_io.specs.Device.{FileSystem, file_at, bytes_at}
use Rattle.cord_io.specs.Table.{HasLengths, length_at}
use Rattle.cord_io.specs.FunctionTexts.{length-text_of, digit_at, byte_value_at}
use Rattle.cord_file.specs.FileTable.{Opened, lengths_in, table_in}
use Rattle.cord_file.specs.declared.files.OpenFile.{OpenFile}

-- the path and the length of a file
abbrev pub reported_of : OpenFile → List ℕ × ℕ
reported_of file = (string_bytes file.path, file.len)

-- the paths and the lengths of files
abbrev pub opened_of : List OpenFile → Opened
opened_of files = map reported_of files

-- what holds of each file
abbrev pub Each : (OpenFile → Type 0) → List OpenFile → Type 0
Each P files = (k : ℕ) (file : OpenFile) → slice_get files k ≡ Some file → P file

-- the device handed out each number, with this path and this length
abbrev pub AreHandedOut : (ℕ → Option (List ℕ × ℕ)) → List OpenFile → Type 0
AreHandedOut reported files = Each (λ file. reported file.no.0 ≡ Some (reported_of file)) files

-- no file is longer than a cord can be
abbrev pub AreShortEnough : List OpenFile → Type 0
AreShortEnough files = Each (λ file. file.len ≤ MAX_LEN) files

-- each path is there, in each consistent file system
abbrev pub AreThere : (FileSystem → Type 0) → List OpenFile → Type 0
AreThere consistent files = Each (λ file. (file_system : FileSystem) → consistent file_system →
    file_at file_system (string_bytes file.path) ≡ Some (bytes_at file_system (string_bytes file.path))) files

-- and each file is as long as was reported
abbrev pub AreAsLong : (FileSystem → Type 0) → List OpenFile → Type 0
AreAsLong consistent files = Each (λ file. (file_system : FileSystem) → consistent file_system → length
    (bytes_at file_system (string_bytes file.path)) ≡ file.len) files

lengths_of_one : (file_system : FileSystem) (files : List OpenFile) (n : ℕ) →
    ((file : OpenFile) → slice_get files n ≡ Some file → length (bytes_at file_system (string_bytes file.path)) ≡ file.len) →
    length (table_in (opened_of files) file_system (suc (suc n))) ≡ length_at (lengths_in (opened_of files)) (suc (suc n))
lengths_of_one file_system [] n h = refl
lengths_of_one file_system (file ∷ files) zero h = h file refl
lengths_of_one file_system (file ∷ files) (suc n) h = lengths_of_one file_system files n h

lengths_of_table : (file_system : FileSystem) (files : List OpenFile) → Each
    (λ file. length (bytes_at file_system (string_bytes file.path)) ≡ file.len)
    files → HasLengths (lengths_in (opened_of files)) (table_in (opened_of files) file_system)
lengths_of_table file_system files h zero = length-text_of digit_at MAX_LEN
lengths_of_table file_system files h (suc zero) = length-text_of byte_value_at MAX_LEN
lengths_of_table file_system files h (suc (suc n)) = lengths_of_one file_system files n (h n)

-- over each consistent file system the table has the lengths reported
pub as_long_as_reported : (consistent : FileSystem → Type 0) (files : List OpenFile) → AreAsLong consistent files →
    (file_system : FileSystem) → consistent file_system →
    HasLengths (lengths_in (opened_of files)) (table_in (opened_of files) file_system)
as_long_as_reported consistent files h file_system agrees = lengths_of_table file_system files (λ k file e. h k file e file_system agrees)
