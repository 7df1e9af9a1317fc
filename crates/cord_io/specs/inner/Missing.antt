-- What the machine reported of a path at which no file is.
use Rattle.std.specs.Prelude.{ℕ, List, ◌∷◌, Ok, Err}
use Rattle.std.specs.declared.result.Result.{Result}
use Rattle.cord_io.specs.Reported.{Reported, is_missing}
use Rattle.cord_io.specs.declared.faults.OpenFault.{OpenFault}
use Rattle.cord_io.specs.declared.faults.OpenFault.TheVariants.{NotFound, Failed}

-- what was reported after the path was opened with this answer
abbrev pub after_finding : {F : Type 0} → List ℕ → Result F OpenFault → List Reported → List Reported
after_finding path (Err NotFound) reported = is_missing path ∷ reported
after_finding path (Err Failed) reported = reported
after_finding path (Ok file) reported = reported
