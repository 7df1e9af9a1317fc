-- Cords over files: what each call makes, and when it is refused.
use Rattle.std.specs.Prelude.{◌≡◌, ℕ, ◌<◌, ◌≤◌, ◌⊎◌, ⊤, List, length, Option, Some}
use Rattle.cord_io.specs.Device.{FileSystem, file_at}
use Rattle.cord_node.specs.declared.Node.{Node}
use Rattle.cord_core.specs.Cord.{text_len, bytes_of, CordFitsIn}
use Rattle.cord_core.specs.Forms.{IsLeafOf, IsFuncOf}
use Rattle.cord_core.specs.Equations.{HasText}
use Rattle.cord_file.specs.declared.TheConstants.{SHORT_FILE}
use Rattle.cord_file.specs.declared.faults.FileError.{FileError}
use Rattle.cord_file.specs.declared.faults.FileError.TheVariants.{NoFile, TooLong, ReadFailed, TooManyFiles, NoMemory}
use Rattle.cord_file.specs.FileTable.{Opened, lengths_in, table_in}
use Rattle.cord_file.specs.Opening.{Opens, IsOpenRefusal}

-- the cord is one leaf with so many bytes
pub record IsLeafOver (len : ℕ) (cord : Option Node) : Type 0 where
  pub bytes : List ℕ
  pub form : IsLeafOf bytes cord
  pub text : HasText bytes cord
  pub count : length bytes ≡ len

-- the cord is one function part over the whole of a source
pub record IsFuncOver (opened : Opened) (id len : ℕ) (cord : Option Node) : Type 0 where
  pub form : IsFuncOf id 0 len cord
  pub fits : CordFitsIn (lengths_in opened) cord

-- over a file system the text of the cord is the file at the path
abbrev pub IsFileIn : FileSystem → Opened → List ℕ → Option Node → Type 0
IsFileIn file_system opened path cord = file_at file_system path ≡ Some (bytes_of (table_in opened file_system) cord)

-- the path is open, and the cord is one leaf as long as its file
pub record IsWhole (old new : Opened) (path : List ℕ) (cord : Option Node) : Type 0 where
  pub id : ℕ
  pub len : ℕ
  pub opens : Opens old new path id len
  pub leaf : IsLeafOver len cord

-- the path is open, and the cord is one function part over the whole of its source
pub record IsLazy (old new : Opened) (path : List ℕ) (cord : Option Node) : Type 0 where
  pub id : ℕ
  pub len : ℕ
  pub opens : Opens old new path id len
  pub func : IsFuncOver new id len cord

-- a short file is read whole, another one not at all
abbrev pub IsWholeOrLazy : Opened → Opened → List ℕ → Option Node → Type 0
IsWholeOrLazy old new path cord = ((text_len cord ≤ SHORT_FILE) × IsWhole old new path cord) ⊎
    ((SHORT_FILE < text_len cord) × IsLazy old new path cord)

-- why a file that is open wasn't read whole
abbrev pub IsReadRefusal : FileError → Type 0
IsReadRefusal NoFile = ⊥
IsReadRefusal TooLong = ⊥
IsReadRefusal ReadFailed = ⊤
IsReadRefusal TooManyFiles = ⊥
IsReadRefusal NoMemory = ⊤

-- the path is open
abbrev pub IsOpened : Opened → Opened → List ℕ → Type 0
IsOpened old new path = (id : ℕ) × (len : ℕ) × Opens old new path id len

-- why no cord was made of a file that is read whole: the path wasn't opened, or it is open and reading was refused
abbrev pub IsWholeRefusal : Opened → Opened → List ℕ → FileError → Type 0
IsWholeRefusal old new path e = ((new ≡ old) × IsOpenRefusal old path e) ⊎ (IsReadRefusal e × IsOpened old new path)

-- why no cord was made of a file that isn't read: the path wasn't opened, or it is open and there was no memory
abbrev pub IsLazyRefusal : Opened → Opened → List ℕ → FileError → Type 0
IsLazyRefusal old new path e = ((new ≡ old) × IsOpenRefusal old path e) ⊎ ((e ≡ NoMemory) × IsOpened old new path)

-- the path is open, and its file is a short one
abbrev pub IsShortOpened : Opened → Opened → List ℕ → Type 0
IsShortOpened old new path = (id : ℕ) × (len : ℕ) × Opens old new path id len × (len ≤ SHORT_FILE)

-- why no cord was made of a file that is read where it is short: the path wasn't opened, or it is open, and there was no memory or a short
-- file wasn't read
abbrev pub IsWholeOrLazyRefusal : Opened → Opened → List ℕ → FileError → Type 0
IsWholeOrLazyRefusal old new path e = IsLazyRefusal old new path e ⊎ (IsReadRefusal e × IsShortOpened old new path)
