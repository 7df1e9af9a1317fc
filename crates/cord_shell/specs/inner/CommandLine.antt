-- What an error of clap comes to.
use Rattle.std.specs.Prelude.{◌≡◌, ◌≢◌}
use Rattle.clap.specs.declared.error.kind.ErrorKind.{ErrorKind}
use Rattle.clap.specs.declared.error.kind.ErrorKind.TheVariants.{DisplayHelp, OutOfMemory}
use Rattle.cord_shell.specs.declared.words.NoRequest.{NoRequest}
use Rattle.cord_shell.specs.declared.words.NoRequest.TheVariants as none
use Rattle.std.specs.Prelude.{◌≡◌, ◌≢◌, ℕ, List}
use Rattle.clap.specs.declared.error.kind.ErrorKind.TheVariants.{DisplayHelp}
use Rattle.cord_shell.specs.declared.words.Request.{Request}
use Rattle.cord_shell.specs.CommandLine.{AsksFor, AsksForHelp, IsRefused}

-- what an error of this kind comes to
abbrev pub IsKindOf : ErrorKind → NoRequest → Type 0
IsKindOf kind (none.Help text) = kind ≡ DisplayHelp
IsKindOf kind none.Refused = (kind ≢ DisplayHelp) × (kind ≢ OutOfMemory)
IsKindOf kind none.NoMemory = Unit {0}

abbrev pub IsRequest : List (List ℕ) → Request → Type 0
IsRequest words request = AsksFor words request.script.now request.unplanned request.show_plan

-- why there is no request; out of memory says nothing of the words
abbrev pub IsNoRequest : List (List ℕ) → NoRequest → Type 0
IsNoRequest words (none.Help text) = AsksForHelp words
IsNoRequest words none.Refused = IsRefused words
IsNoRequest words none.NoMemory = Unit {0}
