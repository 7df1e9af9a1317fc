-- What the program does with its words.
use Rattle.std.specs.Prelude.{◌≡◌, ◌≢◌, ℕ, List, Some, None, Bool, true, false}
use Rattle.cord_io.specs.Device.{FileSystem, file_at, raised}
use Rattle.cord_script.specs.FirstErrors.{FirstError}
use Rattle.cord_script.specs.Script.{Reads, ReadsUpTo}
use Rattle.cord_script.specs.declared.refusals.Refusal.{Refusal}
use Rattle.cord_script.specs.declared.refusals.RefusalKind.TheVariants.{NoMemory}
use Rattle.cord_syntax.specs.declared.statements.Statement.{Statement}
use Rattle.cord_meaning.specs.Ends.{Counts, FilesKept, NamesCause}
use Rattle.cord_plan.specs.Planned.{Operation, planned, trivial}
use Rattle.cord_plan.specs.PlanText.{text_of_plan}
use Rattle.cord_plan.specs.Liveness.{IsLater}
use Rattle.cord_run.specs.Runs.{Runs}
use Rattle.cord_shell.specs.CommandLine.{AsksFor, AsksForHelp, IsRefused}
use Rattle.cord_io.specs.SinkCounts.{SinkCounts}
use Rattle.cord_shell.specs.Reports.{IsUntouched, IsWritten, IsCut, sink_of}
use Rattle.cord_shell.specs.declared.outcome.Outcome.{Outcome}
use Rattle.cord_shell.specs.declared.outcome.Outcome.TheVariants as outcomes

-- the operations of a script's plan, given exactly what is read later, or of its trivial plan
abbrev pub IsPlan : Bool → List Statement → List Operation → Type 0
IsPlan true statements operations = operations ≡ trivial statements
IsPlan false statements operations = (later : List ℕ → ℕ → Bool) × IsLater statements later × (operations ≡ planned statements later)

-- the bytes are read as a script, and this is the text of its plan
abbrev pub IsPlanText : Bool → List ℕ → List ℕ → Type 0
IsPlanText unplanned b text = (statements : List Statement) × Reads b statements
    × (operations : List Operation) × IsPlan unplanned statements operations × (text ≡ text_of_plan operations)

-- nothing was written, and no file failed
abbrev pub IsQuiet : List ℕ → List ℕ → Counts → Type 0
IsQuiet before after n = IsUntouched before after (sink_of n) × FilesKept n

-- the bytes are wrong so; or memory was refused, at the line that was being read
abbrev pub IsWrong : List ℕ → Refusal → Type 0
IsWrong b refusal =
    (refusal.kind ≢ NoMemory → FirstError b refusal.line refusal.kind) × (refusal.kind ≡ NoMemory → ReadsUpTo b refusal.line)

-- what a run of the script of these bytes comes to, over each file system that is consistent with the files after it
abbrev pub IsRun : (FileSystem → Type 0) → List ℕ → List ℕ → List ℕ → Counts → Outcome → Type 0
IsRun consistent b before after n (outcomes.Ended end_) = Runs b consistent before after n end_ × NamesCause n end_
IsRun consistent b before after n (outcomes.Refused refusal) = IsQuiet before after n × IsWrong b refusal
IsRun consistent b before after n _ = ⊥

-- what showing its plan, or its trivial plan, comes to
abbrev pub IsPlanPrinted : Bool → List ℕ → List ℕ → List ℕ → SinkCounts → Outcome → Type 0
IsPlanPrinted unplanned b before after n outcomes.PlanPrinted = (text : List ℕ) × IsPlanText unplanned b text × IsWritten text before after n
IsPlanPrinted unplanned b before after n outcomes.PlanUnwritten = (text : List ℕ) × IsPlanText unplanned b text × IsCut text before after n
IsPlanPrinted unplanned b before after n (outcomes.Refused refusal) = IsUntouched before after n × IsWrong b refusal
IsPlanPrinted unplanned b before after n outcomes.NoMemory = IsUntouched before after n
IsPlanPrinted unplanned b before after n _ = ⊥

-- what a help text comes to
abbrev pub IsHelp : List ℕ → List ℕ → SinkCounts → Outcome → Type 0
IsHelp before after n outcomes.HelpPrinted = (text : List ℕ) × IsWritten text before after n
IsHelp before after n outcomes.HelpUnwritten = (text : List ℕ) × IsCut text before after n
IsHelp before after n _ = ⊥

-- the script of these bytes is run, or its plan is printed and nothing is run
abbrev pub Does : (FileSystem → Type 0) → Bool → Bool → List ℕ → List ℕ → List ℕ → Counts → Outcome → Type 0
Does consistent unplanned true b before after n outcome = IsPlanPrinted unplanned b before after (sink_of n) outcome × FilesKept n
Does consistent unplanned false b before after n outcome = IsRun consistent b before after n outcome

-- what the script at a path comes to; its bytes are those at the path, in each file system that is consistent with the files
abbrev pub Serves : (FileSystem → Type 0) → List ℕ → Bool → Bool → List ℕ → List ℕ → Counts → Outcome → Type 0
Serves consistent path unplanned show_plan before after n outcomes.NoScript =
    IsQuiet before after n × ((file_system : FileSystem) → consistent file_system → file_at file_system path ≡ None)
Serves consistent path unplanned show_plan before after n outcomes.Unreadable =
    IsUntouched before after (sink_of n) × (n.files_after ≡ raised n.files_before)
Serves consistent path unplanned show_plan before after n outcomes.NoMemory = IsQuiet before after n
Serves consistent path unplanned show_plan before after n (outcomes.Refused refusal) =
    IsQuiet before after n × ((file_system : FileSystem) → consistent file_system → (b : List ℕ) × (file_at file_system path ≡ Some b) ×
    IsWrong b refusal)
Serves consistent path unplanned show_plan before after n outcome =
    (b : List ℕ) × ((file_system : FileSystem) → consistent file_system → file_at file_system path ≡ Some b) ×
    Does consistent unplanned show_plan b before after n outcome

-- the words ask for a script, and this is what it comes to
abbrev pub IsServed : (FileSystem → Type 0) → List (List ℕ) → List ℕ → List ℕ → Counts → Outcome → Type 0
IsServed consistent words before after n outcome =
    (path : List ℕ) × (unplanned show_plan : Bool) × AsksFor words path unplanned show_plan ×
    Serves consistent path unplanned show_plan before after n outcome

-- what the words come to
abbrev pub ComesTo : (FileSystem → Type 0) → List (List ℕ) → List ℕ → List ℕ → Counts → Outcome → Type 0
ComesTo consistent words before after n outcomes.HelpPrinted = AsksForHelp words × IsHelp before after (sink_of n) outcomes.HelpPrinted ×
    FilesKept n
ComesTo consistent words before after n outcomes.HelpUnwritten = AsksForHelp words × IsHelp before after (sink_of n) outcomes.HelpUnwritten
    ×
    FilesKept n
ComesTo consistent words before after n outcomes.BadCommandLine = IsQuiet before after n × IsRefused words
ComesTo consistent words before after n outcomes.NoMemory = IsQuiet before after n
ComesTo consistent words before after n outcome = IsServed consistent words before after n outcome
