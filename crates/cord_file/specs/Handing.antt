-- What each call that makes a cord of the file at a path leaves behind it.
use Rattle.std.specs.Prelude.{◌≡◌, ℕ, List, [], ◌∷◌, ◌++◌, Option, IsSome, IfOk, IfErr}
use Rattle.std.specs.declared.result.Result.{Result}
use Rattle.cord_io.specs.Device.{FileSystem, count_after}
use Rattle.cord_io.specs.declared.reading.Files.{Ghosts}
use Rattle.cord_node.specs.declared.Node.{Node}
use Rattle.cord_file.specs.FileTable.{id_in}
use Rattle.cord_file.specs.Faults.{has_failed}
use Rattle.cord_file.specs.FileCords.{IsFileIn}
use Rattle.cord_file.specs.Opening.{Grows, OpensNone, OpensOne, IsUnopened, IsRefusalOver}
use Rattle.cord_file.specs.Sources.{device_in, opened_in}
use Rattle.cord_file.specs.declared.faults.FileError.{FileError}
use Rattle.cord_file.specs.declared.sources.Sources.{Sources}

-- a call opened the file at a path, and handed it over as a cord or was refused: it makes no file system consistent that wasn't so before
-- it, the device counted its failure, each source stays, and over each consistent file system the cord has the text of the file, or the
-- refusal its cause. A path that is open isn't opened again by the device, a source that was added is the one file that it opened, and
-- where none was added a refusal reports that it opened none
abbrev pub HandsOver : {F : Type 0} {ghosts : Ghosts F} →
    Sources F ghosts → Sources F ghosts → List ℕ → Result (Option Node) FileError → Type 0
HandsOver {F} {ghosts} old new path result = record {
  earlier : (file_system : FileSystem) → ghosts.consistent (device_in new) file_system → ghosts.consistent (device_in old) file_system;
  count : ghosts.failures (device_in new) ≡ count_after (has_failed result) (ghosts.failures (device_in old));
  grows : Grows (opened_in old) (opened_in new);
  file : (file_system : FileSystem) → ghosts.consistent (device_in new) file_system → IfOk result
      (IsFileIn file_system (opened_in new) path);
  cause : (file_system : FileSystem) → ghosts.consistent (device_in new) file_system → IfErr result (IsRefusalOver file_system path);
  again : IsSome (id_in (opened_in old) path) → OpensNone (ghosts.opened (device_in old)) (ghosts.opened (device_in new));
  once : (len : ℕ) → opened_in new ≡ opened_in old ++ (path, len) ∷ [] →
      OpensOne (ghosts.opened (device_in old)) (ghosts.opened (device_in new)) path len;
  none_opened : opened_in new ≡ opened_in old →
      IfErr result (IsUnopened (ghosts.opened (device_in old)) (ghosts.opened (device_in new)));
}
