-- A table of files: the device, and the files that were opened.
use Rattle.cord_io.specs.declared.reading.Files.{Ghosts}
use Rattle.cord_file.specs.FileTable.{Opened}
use Rattle.cord_file.specs.Files.{opened_of}
use Rattle.cord_file.specs.declared.sources.Sources.{Sources}

-- the device
abbrev pub device_in : {F : Type 0} {ghosts : Ghosts F} → Sources F ghosts → F
device_in sources = sources.files

-- the paths that were opened, in order
abbrev pub opened_in : {F : Type 0} {ghosts : Ghosts F} → Sources F ghosts → Opened
opened_in sources = opened_of sources.open_files.items
