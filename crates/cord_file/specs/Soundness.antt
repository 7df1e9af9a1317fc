-- What holds of a table of files at all times.
use Rattle.std.specs.Prelude.{ℕ, List}
use Rattle.std.specs.declared.option.Option.{Option}
use Rattle.cord_io.specs.Device.{FileSystem}
use Rattle.cord_file.specs.declared.files.OpenFile.{OpenFile}
use Rattle.cord_file.specs.Blocks.{Slotted, AreCached}
use Rattle.cord_file.specs.Files.{AreHandedOut, AreShortEnough, AreThere, AreAsLong}

-- the opened files are as the device reported, and the kept blocks are theirs
pub record IsSound (consistent : FileSystem → Type 0) (reported : ℕ → Option (List ℕ × ℕ)) (files : List OpenFile) (blocks : List Slotted)
    : Type 0 where
  pub handed_out : AreHandedOut reported files
  pub short_enough : AreShortEnough files
  pub there : AreThere consistent files
  pub as_long : AreAsLong consistent files
  pub cached : AreCached consistent files blocks
