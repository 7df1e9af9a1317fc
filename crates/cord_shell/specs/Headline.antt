-- What the program answers over the machine's devices, by all that they reported.
use Rattle.std.specs.Prelude.{◌≡◌, ◌⊎◌, ℕ, List, [], Bool}
use Rattle.cord_io.specs.Device.{FileSystem, raised}
use Rattle.cord_io.specs.declared.reading.Files as files
use Rattle.cord_io.specs.declared.writing.Sink.{Ghosts}
use Rattle.cord_meaning.specs.Ends.{Counts, EndsFaithfully}
use Rattle.cord_meaning.specs.Faults.{text_of as fault_text}
use Rattle.cord_meaning.specs.declared.ends.End.{End}
use Rattle.cord_meaning.specs.declared.ends.End.TheVariants.{Done, NoMemory, ReadFailed, WriteFailed}
use Rattle.cord_meaning.specs.declared.ends.FaultKind.TheVariants.{NoFile}
use Rattle.cord_plan.specs.Planned.{Operation}
use Rattle.cord_plan.specs.PlanText.{text_of_plan}
use Rattle.cord_script.specs.Refusals.{text_of}
use Rattle.cord_script.specs.Script.{ReadsUpTo}
use Rattle.cord_script.specs.declared.refusals.Refusal.{Refusal}
use Rattle.cord_syntax.specs.declared.statements.Statement.{Statement}
use Rattle.cord_shell.specs.Drives.{IsPlan, IsQuiet, IsWrong}
use Rattle.cord_shell.specs.Outcomes.{line_text, message_of_end, status_of_end, status_of_refusal}
use Rattle.cord_io.specs.SinkCounts.{SinkCounts}
use Rattle.cord_shell.specs.Reports.{IsCut, IsUntouched, IsWritten, Reports, sink_of}

-- what a stream reported: the bytes that it took, how often it failed, in a `put` alone too, and how often it ended
pub record Stream : Type 0 where
  pub taken : List ℕ
  pub failures : ℕ
  pub failed_puts : ℕ
  pub ends : ℕ

abbrev pub stream : {S : Type 0} → Ghosts S → S → Stream
stream sink s = record {
  taken = sink.taken s;
  failures = sink.failures s;
  failed_puts = sink.failed_puts s;
  ends = (sink.finished s).ended;
}

-- the exit status, how often the files failed, standard output and standard error
pub record Answer : Type 0 where
  pub status : ℕ
  pub files_failed : ℕ
  pub out : Stream
  pub err : Stream

-- what the program answered, by what its devices counted and took
abbrev pub answer_of : {F O E : Type 0} → files.Ghosts F → Ghosts O → Ghosts E → ℕ → F → O → E → Answer
answer_of f o e status opened out err =
    record { status = status; files_failed = f.failures opened; out = stream o out; err = stream e err }

-- the counts, of devices that began with none
abbrev pub counts_answered : Answer → Counts
counts_answered a = record {
  files_before = 0;
  files_after = a.files_failed;
  sink_before = 0;
  sink_after = a.out.failures;
  puts_before = 0;
  puts_after = a.out.failed_puts;
  finished_before = 0;
  finished_after = a.out.ends;
}

abbrev pub err_counts_of : Answer → SinkCounts
err_counts_of a = record { failed_before = 0; failed_after = a.err.failures; ended_before = 0; ended_after = a.err.ends }

-- the status, and the line on standard error: those of this end
abbrev pub AnswersEnd : Answer → End → Type 0
AnswersEnd a reported = (a.status ≡ status_of_end reported) × Reports [] a.err.taken (err_counts_of a) (message_of_end reported)

-- nothing was run and nothing is out: memory was refused at a line that may be reported, or the script can't be opened or read, whose
-- count rose
abbrev pub StopsBefore : (ℕ → Type 0) → Answer → End → Type 0
StopsBefore MayReport a (NoMemory line) = MayReport line × IsQuiet [] a.out.taken (counts_answered a)
StopsBefore MayReport a (ReadFailed line) =
    (line ≡ 0) × IsUntouched [] a.out.taken (sink_of (counts_answered a)) × ((counts_answered a).files_after ≡ raised (counts_answered a).files_before)
StopsBefore MayReport a _ = ⊥

-- no line
abbrev pub IsNoLine : ℕ → Type 0
IsNoLine line = line ≡ 0

-- no line, or the line of these bytes that was being read
abbrev pub IsReadingAt : List ℕ → ℕ → Type 0
IsReadingAt b line = IsNoLine line ⊎ ReadsUpTo b line

abbrev pub IsStopped : Answer → Type 0
IsStopped a = (reported : End) × AnswersEnd a reported × StopsBefore IsNoLine a reported

-- the script of these bytes was run, and its end, which status and line report, is faithful: all that it puts over the file system is out
-- and the end is the script's own, or a prefix of it is out and the end is the cause that came; or it was stopped before
pub record RunsOver (b : List ℕ) (statements : List Statement) (file_system : FileSystem) (a : Answer) : Type 0 where
  pub reported : End
  pub answers : AnswersEnd a reported
  pub faithful : EndsFaithfully statements file_system [] a.out.taken (counts_answered a) reported ⊎ StopsBefore (IsReadingAt b) a reported

-- the text of a plan is out, or a prefix of it where standard output failed
abbrev pub IsOut : List ℕ → Answer → End → Type 0
IsOut text a Done = IsWritten text [] a.out.taken (sink_of (counts_answered a))
IsOut text a (WriteFailed line) = (line ≡ 0) × IsCut text [] a.out.taken (sink_of (counts_answered a))
IsOut text a _ = ⊥

-- the plan of the script of these bytes was printed and nothing was run; or it was stopped before
pub record ShowsOver (unplanned : Bool) (b : List ℕ) (statements : List Statement) (a : Answer) : Type 0 where
  pub reported : End
  pub answers : AnswersEnd a reported
  pub shows : ((operations : List Operation) × IsPlan unplanned statements operations × IsOut (text_of_plan operations) a reported) ⊎
      StopsBefore (IsReadingAt b) a reported

-- nothing is out, and status and line report what is wrong with the bytes first, or out of memory at the line that was being read; or
-- it was stopped before
abbrev pub RefusesOver : List ℕ → Answer → Type 0
RefusesOver b a =
    ((refusal : Refusal) × IsWrong b refusal × (a.status ≡ status_of_refusal refusal.kind)
    × Reports [] a.err.taken (err_counts_of a) (line_text refusal.line (text_of refusal.kind)) × IsQuiet [] a.out.taken (counts_answered a))
    ⊎ IsStopped a

-- nothing is out, and status and line report that there is no such file; or it was stopped before
abbrev pub MissesOver : Answer → Type 0
MissesOver a =
    ((a.status ≡ 2) × Reports [] a.err.taken (err_counts_of a) (line_text 0 (fault_text NoFile)) × IsQuiet [] a.out.taken (counts_answered a))
    ⊎ IsStopped a
