-- The status and the message of each outcome.
use Rattle.std.specs.Prelude.{ℕ, List, [], ◌++◌, codes, decimal}
use Rattle.cord_meaning.specs.declared.ends.End.{End}
use Rattle.cord_meaning.specs.declared.ends.End.TheVariants.{Done, Fault, NoMemory, ReadFailed, WriteFailed}
use Rattle.cord_meaning.specs.declared.ends.FaultKind.TheVariants.{NoFile}
use Rattle.cord_meaning.specs.Faults.{text_of as fault_text}
use Rattle.cord_script.specs.declared.refusals.RefusalKind.{RefusalKind}
use Rattle.cord_script.specs.declared.refusals.RefusalKind.TheVariants as refusals
use Rattle.cord_script.specs.Refusals.{text_of}
use Rattle.cord_shell.specs.declared.outcome.Outcome.{Outcome}
use Rattle.cord_shell.specs.declared.outcome.Outcome.TheVariants as outcomes

-- the status of a run's end
abbrev pub status_of_end : End → ℕ
status_of_end Done = 0
status_of_end (Fault line kind) = 1
status_of_end (NoMemory line) = 3
status_of_end (ReadFailed line) = 4
status_of_end (WriteFailed line) = 5

-- the status of a refusal: out of memory is none of the script
abbrev pub status_of_refusal : RefusalKind → ℕ
status_of_refusal refusals.NoMemory = 3
status_of_refusal _ = 2

-- the program's status
abbrev pub status_of_outcome : Outcome → ℕ
status_of_outcome (outcomes.Ended end_) = status_of_end end_
status_of_outcome (outcomes.Refused refusal) = status_of_refusal refusal.kind
status_of_outcome outcomes.NoScript = 2
status_of_outcome outcomes.Unreadable = 4
status_of_outcome outcomes.NoMemory = 3
status_of_outcome outcomes.PlanPrinted = 0
status_of_outcome outcomes.PlanUnwritten = 5
status_of_outcome outcomes.HelpPrinted = 0
status_of_outcome outcomes.HelpUnwritten = 5
status_of_outcome outcomes.BadCommandLine = 2

-- the message that names a line and what happened there
abbrev pub line_text : ℕ → List ℕ → List ℕ
line_text line text = codes "cordsh: line " ++ decimal line ++ codes ": " ++ text ++ codes "\n"

-- the message of a run's end
abbrev pub message_of_end : End → List ℕ
message_of_end Done = []
message_of_end (Fault line kind) = line_text line (fault_text kind)
message_of_end (NoMemory line) = line_text line (codes "no memory")
message_of_end (ReadFailed line) = line_text line (codes "read failed")
message_of_end (WriteFailed line) = line_text line (codes "write failed")

-- the message on `err`
abbrev pub message_of : Outcome → List ℕ
message_of (outcomes.Ended end_) = message_of_end end_
message_of (outcomes.Refused refusal) = line_text refusal.line (text_of refusal.kind)
message_of outcomes.NoScript = line_text 0 (fault_text NoFile)
message_of outcomes.Unreadable = line_text 0 (codes "read failed")
message_of outcomes.NoMemory = line_text 0 (codes "no memory")
message_of outcomes.PlanPrinted = []
message_of outcomes.PlanUnwritten = line_text 0 (codes "write failed")
message_of outcomes.HelpPrinted = []
message_of outcomes.HelpUnwritten = line_text 0 (codes "write failed")
message_of outcomes.BadCommandLine = codes "cordsh: bad command line\n"
