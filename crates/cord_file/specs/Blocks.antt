-- Blocks of files.
use Rattle.std.specs.Prelude.{◌≡◌, ℕ, ◌-◌, ◌*◌, ◌<◌, List, length, take, drop, min, slice_get, Some, Contains}
use Rattle.std.specs.Global.{Box}
use Rattle.std.specs.String.{string_bytes}
use Rattle.cord_io.specs.Device.{FileSystem, bytes_at}
use Rattle.cord_file.specs.declared.blocks.TheConstants.{BLOCK}
use Rattle.cord_file.specs.declared.blocks.BlockKey.{BlockKey}
use Rattle.cord_file.specs.declared.files.OpenFile.{OpenFile}

-- how many bytes a text of this length has in its block of a number
abbrev pub block_size : ℕ → ℕ → ℕ
block_size len number = min (len - number * BLOCK) BLOCK

-- the list begins with the bytes that a text of this length has in its block of a number
abbrev pub IsBlock : ℕ → List ℕ → ℕ → List ℕ → Type 0
IsBlock len text number block = take (block_size len number) block ≡ take (block_size len number) (drop (number * BLOCK) text)

-- a block on the heap
abbrev pub HeapBlock : Type 0
HeapBlock = Box (List ℕ)

-- a block that is kept, under its key
abbrev pub Entry : Type 0
Entry = BlockKey × HeapBlock

-- a kept block is one of a file that was opened, in each consistent file system
pub record IsCached (consistent : FileSystem → Type 0) (files : List OpenFile) (entry : Entry) : Type 0 where
  pub opened : entry.0.place < length files
  pub block : (file : OpenFile) → slice_get files entry.0.place ≡ Some file → (file_system : FileSystem) → consistent file_system →
      IsBlock file.len (bytes_at file_system (string_bytes file.path)) entry.0.number entry.1.value

-- the same with the number of the slot that it lies in
abbrev pub Slotted : Type 0
Slotted = ℕ × Entry

-- each kept block is one of a file that was opened
abbrev pub AreCached : (FileSystem → Type 0) → List OpenFile → List Slotted → Type 0
AreCached consistent files entries = (entry : Slotted) → Contains entries entry → IsCached consistent files entry.1
