use Rattle.std.proofs.Common.{◌≡◌, ◌+◌, drop}
use Rattle.cord_file.specs.FileTable.{id_in, id_from}
use Rattle.cord_file.specs.Files.{opened_of}
use Rattle.cord_file.proofs.files.place_of.Given as goal

-- the files passed don't have the path
abbrev pub invariant-loop-i : goal.invariant-loop-i
invariant-loop-i l = id_from (l.i + 2) (opened_of (drop l.i l.files)) l.path ≡ id_in (opened_of l.files) l.path
