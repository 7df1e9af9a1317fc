-- What a script comes to.
use Rattle.std.proofs.Common.{◌≡◌, ◌≢◌, ℕ, List, Bool, true, false, Some, Ok, Err, subst, sym}
use Rattle.std.specs.Prelude.{IfOk, IfErr, OnErr, Result}
use Rattle.cord_io.specs.Device.{FileSystem, file_at}
use Rattle.cord_meaning.specs.Ends.{Counts, FilesKept, NamesCause}
use Rattle.cord_meaning.specs.declared.ends.End.{End}
use Rattle.cord_run.specs.Runs.{Runs, NothingCalled}
use Rattle.cord_script.specs.FirstErrors.{FirstError}
use Rattle.cord_script.specs.Script.{ReadsUpTo}
use Rattle.cord_script.specs.declared.refusals.Refusal.{Refusal}
use Rattle.cord_script.specs.declared.refusals.RefusalKind.TheVariants.{NoMemory}
use Rattle.cord_shell.specs.Drives.{IsRun, IsPlanPrinted, Serves}
use Rattle.cord_shell.specs.inner.Outcomes.{outcome_of}
use Rattle.cord_shell.specs.Reports.{sink_of}
use Rattle.cord_shell.specs.declared.outcome.Outcome.{Outcome}
use Rattle.cord_shell.specs.declared.outcome.Outcome.TheVariants as outcomes

-- what a run answers
pub answered : (consistent : FileSystem → Type 0) (b before after : List ℕ) (n : Counts) (r : Result End Refusal)
    → IfOk r (Runs b consistent before after n) → IfOk r (NamesCause n)
    → OnErr r (after ≡ before) → OnErr r (NothingCalled n) → IfErr r (λ x. x.kind ≢ NoMemory → FirstError b x.line x.kind)
    → IfErr r (λ x. x.kind ≡ NoMemory → ReadsUpTo b x.line) → IsRun consistent b before after n (outcome_of r)
answered consistent b before after n (Ok end_) runs cause same unasked first_error at = (runs, cause)
answered consistent b before after n (Err refusal) runs cause same unasked first_error at =
    (((same, unasked.1, unasked.2), unasked.0), (first_error, at))

module _ (consistent : FileSystem → Type 0) (path : List ℕ) (unplanned : Bool) (b before after : List ℕ) where
  module _ (n : Counts) (at : (file_system : FileSystem) → consistent file_system → file_at file_system path ≡ Some b) where
    shows : (outcome : Outcome) → IsPlanPrinted unplanned b before after (sink_of n) outcome → FilesKept n →
        Serves consistent path unplanned true before after n outcome
    shows (outcomes.Ended end_) h kept = absurd h
    shows (outcomes.Refused refusal) h kept = ((h.0, kept), (λ file_system agrees. (b, at file_system agrees, h.1)))
    shows outcomes.NoScript h kept = absurd h
    shows outcomes.Unreadable h kept = absurd h
    shows outcomes.NoMemory h kept = (h, kept)
    shows outcomes.PlanPrinted h kept = (b, at, (h, kept))
    shows outcomes.PlanUnwritten h kept = (b, at, (h, kept))
    shows outcomes.HelpPrinted h kept = absurd h
    shows outcomes.HelpUnwritten h kept = absurd h
    shows outcomes.BadCommandLine h kept = absurd h

    went : (outcome : Outcome) → IsRun consistent b before after n outcome → Serves consistent path unplanned false before after n outcome
    went (outcomes.Ended end_) h = (b, at, h)
    went (outcomes.Refused refusal) h = (h.0, (λ file_system agrees. (b, at file_system agrees, h.1)))
    went outcomes.NoScript h = absurd h
    went outcomes.Unreadable h = absurd h
    went outcomes.NoMemory h = absurd h
    went outcomes.PlanPrinted h = absurd h
    went outcomes.PlanUnwritten h = absurd h
    went outcomes.HelpPrinted h = absurd h
    went outcomes.HelpUnwritten h = absurd h
    went outcomes.BadCommandLine h = absurd h

    -- a plan that was printed
    pub printed_at : (show_plan : Bool) (outcome : Outcome) → show_plan ≡ true → IsPlanPrinted unplanned b before after (sink_of n) outcome →
        FilesKept n
        → Serves consistent path unplanned show_plan before after n outcome
    printed_at show_plan outcome is h kept = subst (λ (s : Bool). Serves consistent path unplanned s before after n outcome) (sym is)
        (shows outcome h kept)

    -- a script that was run, after a reading that didn't fail
    pub run_at : (show_plan : Bool) (outcome : Outcome) → show_plan ≡ false → (k : ℕ) → k ≡ n.files_before →
        IsRun consistent b before after (record n { files_before = k }) outcome
        → Serves consistent path unplanned show_plan before after n outcome
    run_at show_plan outcome is k count h = subst (λ (s : Bool). Serves consistent path unplanned s before after n outcome) (sym is)
        (went outcome (subst (λ (j : ℕ). IsRun consistent b before after (record n { files_before = j }) outcome) count h))
