-- The map that files in memory are.
use Rattle.cord_io.specs.Device.{FileSystem}
use Rattle.cord_io.specs.Memory.{file_system_of}
use Rattle.cord_io.specs.declared.memory.MemFiles.{MemFiles}

abbrev pub file_system_in : MemFiles → FileSystem
file_system_in files = file_system_of files.entries.items
