-- Blocks and ranges of opened files.
use Rattle.std.specs.Prelude.{◌≡◌, ℕ, List, length, take, drop, IsSomeAnd}
use Rattle.std.specs.declared.option.Option.{Option}
use Rattle.std.specs.String.{string_bytes}
use Rattle.cord_io.specs.Device.{FileSystem, bytes_at}
use Rattle.cord_file.specs.declared.files.OpenFile.{OpenFile}
use Rattle.cord_file.specs.Blocks.{IsBlock}

-- the list begins with the bytes that an opened file has in its block of a number, over a file system
abbrev pub IsBlockIn : FileSystem → Option OpenFile → ℕ → List ℕ → Type 0
IsBlockIn file_system slot number block = IsSomeAnd slot (λ file. IsBlock file.len (bytes_at file_system (string_bytes file.path)) number
    block)

-- the bytes are those of a file from a place on
abbrev pub AreRead : FileSystem → Option OpenFile → ℕ → List ℕ → Type 0
AreRead file_system slot start bytes = IsSomeAnd slot (λ file. bytes
    ≡ take (length bytes) (drop start (bytes_at file_system (string_bytes file.path))))

-- the list begins with so many bytes of the file of which this was reported
abbrev pub BeginsWithFile : FileSystem → Option (List ℕ × ℕ) → ℕ → List ℕ → Type 0
BeginsWithFile file_system opened count bytes = IsSomeAnd opened (λ reported. take count bytes ≡ take count
    (bytes_at file_system reported.0))
