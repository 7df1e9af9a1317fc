-- What the program answers over the machine's devices, by what its words come to.
use Rattle.std.proofs.Common.{◌≡◌, ◌≢◌, ◌⊎◌, ℕ, List, [], Bool, true, false, Option, Some, None, refl, sym, ap, subst, ◌∙◌, inl, inr}
use Rattle.std.specs.Prelude.{unwrap_or}
use Rattle.clap.specs.Kinds.{IsAmong}
use Rattle.clap.specs.Faults.{fault_of}
use Rattle.clap.specs.declared.error.kind.ErrorKind.{ErrorKind}
use Rattle.cord_io.specs.Device.{FileSystem, file_at}
use Rattle.cord_meaning.specs.Ends.{Counts, EndsFaithfully}
use Rattle.cord_meaning.specs.declared.ends.End.{End}
use Rattle.cord_meaning.specs.declared.ends.End.TheVariants as ends
use Rattle.cord_plan.specs.Planned.{Operation}
use Rattle.cord_plan.specs.PlanText.{text_of_plan}
use Rattle.cord_script.specs.Laws.{OneScript, ReadHasNoError}
use Rattle.cord_script.specs.Script.{Reads, ReadsUpTo, whole}
use Rattle.cord_script.specs.declared.refusals.Refusal.{Refusal}
use Rattle.cord_script.specs.declared.refusals.RefusalKind.{RefusalKind}
use Rattle.cord_script.specs.declared.refusals.RefusalKind.TheVariants.{TooBig, Unterminated, BadEscape, UnknownStatement, WrongCount}
use Rattle.cord_script.specs.declared.refusals.RefusalKind.TheVariants.{BadName, BadNumber, UnknownName, WrongKind, BadFormat, TooDeep}
use Rattle.cord_script.specs.declared.refusals.RefusalKind.TheVariants.{EndAlone, MissingEnd, TooMany, LiteralTooLong, NoMemory, ElseAlone}
use Rattle.cord_script.specs.declared.refusals.RefusalKind.TheVariants.{MissingIfEnd}
use Rattle.cord_syntax.specs.declared.statements.Statement.{Statement}
use Rattle.cord_script.specs.Refusals.{text_of}
use Rattle.cord_shell.specs.CommandLine.{AsksFor, command}
use Rattle.cord_shell.specs.Drives.{ComesTo, IsPlan, IsPlanText, IsWrong, Serves}
use Rattle.cord_shell.specs.Headline.{Answer, AnswersEnd, counts_answered, err_counts_of, IsOut, MissesOver, RefusesOver, RunsOver}
use Rattle.cord_shell.specs.Headline.{ShowsOver}
use Rattle.cord_shell.specs.Outcomes.{line_text, message_of, status_of_outcome, status_of_refusal}
use Rattle.cord_io.specs.SinkCounts.{SinkCounts}
use Rattle.cord_shell.specs.Reports.{Reports}
use Rattle.cord_shell.specs.declared.outcome.Outcome.{Outcome}
use Rattle.cord_shell.specs.declared.outcome.Outcome.TheVariants as outcomes
use Rattle.cord_shell.specs.Drove.{Drove}

-- out of memory, or another kind
memory_or_not : (k : RefusalKind) → (k ≡ NoMemory) ⊎ (k ≢ NoMemory)
memory_or_not TooBig = inr (λ e. cc)
memory_or_not Unterminated = inr (λ e. cc)
memory_or_not BadEscape = inr (λ e. cc)
memory_or_not UnknownStatement = inr (λ e. cc)
memory_or_not WrongCount = inr (λ e. cc)
memory_or_not BadName = inr (λ e. cc)
memory_or_not BadNumber = inr (λ e. cc)
memory_or_not UnknownName = inr (λ e. cc)
memory_or_not WrongKind = inr (λ e. cc)
memory_or_not BadFormat = inr (λ e. cc)
memory_or_not TooDeep = inr (λ e. cc)
memory_or_not EndAlone = inr (λ e. cc)
memory_or_not MissingEnd = inr (λ e. cc)
memory_or_not TooMany = inr (λ e. cc)
memory_or_not LiteralTooLong = inr (λ e. cc)
memory_or_not NoMemory = inl refl
memory_or_not ElseAlone = inr (λ e. cc)
memory_or_not MissingIfEnd = inr (λ e. cc)

same_some : {x y : List ℕ} → Some x ≡ Some y → x ≡ y
same_some e = ap (λ (o : Option (List ℕ)). unwrap_or o []) e

there : {x : List ℕ} {P : Type 0} (o : Option (List ℕ)) → o ≡ None → o ≡ Some x → P
there o none some = let bad : None ≡ Some _ = sym none ∙ some in cc

no_kind : (words : List (List ℕ)) (kind : ErrorKind) → fault_of command words ≡ [] → IsAmong kind (fault_of command words) → ⊥
no_kind words kind none among = subst (IsAmong kind) none among

-- the words ask for one thing
asked_once : (words : List (List ℕ)) (p q : List ℕ) (u v s t : Bool) → AsksFor words p u s → AsksFor words q v t → (p ≡ q) × (u ≡ v) ×
    (s ≡ t)
asked_once words p q u v s t one two = (same_some (sym one.1 ∙ two.1), one.2 ∙ sym two.2, one.3 ∙ sym two.3)

module _ (consistent : FileSystem → Type 0) (words : List (List ℕ)) (path : List ℕ) (u s : Bool) (asks : AsksFor words path u s)
    (a : Answer) where
  served_as : (outcome : Outcome) → (q : List ℕ) (v t : Bool) → AsksFor words q v t →
      Serves consistent q v t [] a.out.taken (counts_answered a) outcome → Serves consistent path u s [] a.out.taken (counts_answered a) outcome
  served_as outcome q v t other h =
      let same = asked_once words q path v u t s other asks in
      subst (λ (x : Bool). Serves consistent path u x [] a.out.taken (counts_answered a) outcome) same.2
      (subst (λ (x : Bool). Serves consistent path x t [] a.out.taken (counts_answered a) outcome) same.1
      (subst (λ (x : List ℕ). Serves consistent x v t [] a.out.taken (counts_answered a) outcome) same.0 h))

  -- words that ask for a script come to what that comes to
  pub served : (outcome : Outcome) → ComesTo consistent words [] a.out.taken (counts_answered a) outcome →
      Serves consistent path u s [] a.out.taken (counts_answered a) outcome
  served (outcomes.Ended end_) h = served_as (outcomes.Ended end_) h.0 h.1 h.2 h.3 h.4
  served (outcomes.Refused refusal) h = served_as (outcomes.Refused refusal) h.0 h.1 h.2 h.3 h.4
  served outcomes.NoScript h = served_as outcomes.NoScript h.0 h.1 h.2 h.3 h.4
  served outcomes.Unreadable h = served_as outcomes.Unreadable h.0 h.1 h.2 h.3 h.4
  served outcomes.NoMemory h = h
  served outcomes.PlanPrinted h = served_as outcomes.PlanPrinted h.0 h.1 h.2 h.3 h.4
  served outcomes.PlanUnwritten h = served_as outcomes.PlanUnwritten h.0 h.1 h.2 h.3 h.4
  served outcomes.HelpPrinted h = absurd (no_kind words _ asks.0 h.0)
  served outcomes.HelpUnwritten h = absurd (no_kind words _ asks.0 h.0)
  served outcomes.BadCommandLine h = absurd (no_kind words h.1.0 asks.0 h.1.2)

-- a refusal when out of memory stopped it
refused_memory : (a : Answer) (refusal : Refusal) → refusal.kind ≡ NoMemory → a.status ≡ status_of_refusal refusal.kind
    → Reports [] a.err.taken (err_counts_of a) (line_text refusal.line (text_of refusal.kind)) → AnswersEnd a (ends.NoMemory refusal.line)
refused_memory a refusal is status reports = (
  status ∙ ap status_of_refusal is,
  subst (λ (k : RefusalKind).
      Reports [] a.err.taken (err_counts_of a) (line_text refusal.line (text_of k))) is reports,
)

module _ (consistent : FileSystem → Type 0) (file_system : FileSystem) (agrees : consistent file_system) (path : List ℕ) (u : Bool)
    (a : Answer) where
  module _ (one : OneScript) (sound : ReadHasNoError) (b : List ℕ) (ss : List Statement) (at : file_at file_system path ≡ Some b)
      (reads : Reads b ss) where
    same_bytes : (c : List ℕ) → file_at file_system path ≡ Some c → c ≡ b
    same_bytes c other = same_some (sym other ∙ at)

    -- a script that is read is refused only when out of memory
    memory_refused : (refusal : Refusal) → (c : List ℕ) → file_at file_system path ≡ Some c → IsWrong c refusal → refusal.kind ≡ NoMemory
    memory_refused refusal c other wrong = elim (memory_or_not refusal.kind) [
      | inl is ↦ is
      | inr isnt ↦ absurd (sound whole b ss refusal.line refusal.kind reads
          ((subst (λ (x : List ℕ). IsWrong x refusal) (same_bytes c other) wrong).0 isnt))
    ]

    -- and at the line that was being read
    refused_at : (refusal : Refusal) → (c : List ℕ) → file_at file_system path ≡ Some c → IsWrong c refusal → ReadsUpTo b refusal.line
    refused_at refusal c other wrong =
        (subst (λ (x : List ℕ). IsWrong x refusal) (same_bytes c other) wrong).1 (memory_refused refusal c other wrong)

    pub runs : (outcome : Outcome) → Serves consistent path u false [] a.out.taken (counts_answered a) outcome → a.status ≡ status_of_outcome
        outcome
        → Reports [] a.err.taken (err_counts_of a) (message_of outcome) → RunsOver b ss file_system a
    runs (outcomes.Ended end_) h status reports =
        let run = h.2.0 in
        let is : run.0 ≡ ss = one whole b run.0 ss (subst (λ (x : List ℕ). Reads x run.0) (same_bytes h.0 (h.1 file_system agrees)) run.1)
        reads in
        record {
          reported = end_;
          answers = (status, reports);
          faithful =
              inl (subst (λ (x : List Statement). EndsFaithfully x file_system [] a.out.taken (counts_answered a) end_) is
              (run.2 file_system agrees));
        }
    runs (outcomes.Refused refusal) h status reports =
        let wrong = h.1 file_system agrees in
        let is = memory_refused refusal wrong.0 wrong.1 wrong.2 in
        let at_line = refused_at refusal wrong.0 wrong.1 wrong.2 in
        record {
          reported = ends.NoMemory refusal.line;
          answers = refused_memory a refusal is status reports;
          faithful = inr
              (inr at_line, h.0);
        }
    runs outcomes.NoScript h status reports = there (file_at file_system path) (h.1 file_system agrees) at
    runs outcomes.Unreadable h status reports = record {
      reported = ends.ReadFailed 0;
      answers = (status, reports);
      faithful = inr
          (refl, h.0, h.1);
    }
    runs outcomes.NoMemory h status reports = record {
      reported = ends.NoMemory 0;
      answers = (status, reports);
      faithful = inr (inl refl, h);
    }
    runs outcomes.PlanPrinted h status reports = absurd h.2
    runs outcomes.PlanUnwritten h status reports = absurd h.2
    runs outcomes.HelpPrinted h status reports = absurd h.2
    runs outcomes.HelpUnwritten h status reports = absurd h.2
    runs outcomes.BadCommandLine h status reports = absurd h.2

    -- the plan's text is that of these statements
    planned_so : (text : List ℕ) → (c : List ℕ) → file_at file_system path ≡ Some c → IsPlanText u c text → (reported : End) → IsOut text a
        reported
        → (operations : List Operation) × IsPlan u ss operations × IsOut (text_of_plan operations) a reported
    planned_so text c other plan reported out =
        let is : plan.0 ≡ ss = one whole b plan.0 ss (subst (λ (x : List ℕ). Reads x plan.0) (same_bytes c other) plan.1) reads in
        (plan.2, subst (λ (x : List Statement). IsPlan u x plan.2) is plan.3, subst (λ (x : List ℕ). IsOut x a reported) plan.4 out)

    pub shows_plan : (outcome : Outcome) → Serves consistent path u true [] a.out.taken (counts_answered a) outcome →
        a.status ≡ status_of_outcome outcome
        → Reports [] a.err.taken (err_counts_of a) (message_of outcome) → ShowsOver u b ss a
    shows_plan (outcomes.Ended end_) h status reports = absurd h.2.0
    shows_plan (outcomes.Refused refusal) h status reports =
        let wrong = h.1 file_system agrees in
        let is = memory_refused refusal wrong.0 wrong.1 wrong.2 in
        let at_line = refused_at refusal wrong.0 wrong.1 wrong.2 in
        record {
          reported = ends.NoMemory refusal.line;
          answers = refused_memory a refusal is status reports;
          shows = inr (inr at_line, h.0);
        }
    shows_plan outcomes.NoScript h status reports = there (file_at file_system path) (h.1 file_system agrees) at
    shows_plan outcomes.Unreadable h status reports = record {
      reported = ends.ReadFailed 0;
      answers = (status, reports);
      shows = inr (refl, h.0, h.1);
    }
    shows_plan outcomes.NoMemory h status reports = record {
      reported = ends.NoMemory 0;
      answers = (status, reports);
      shows = inr
          (inl refl, h);
    }
    shows_plan outcomes.PlanPrinted h status reports =
        let plan = h.2.0 in
        record {
          reported = ends.Done;
          answers = (status, reports);
          shows = inl (planned_so plan.0 h.0 (h.1 file_system agrees) plan.1 ends.Done plan.2);
        }
    shows_plan outcomes.PlanUnwritten h status reports =
        let plan = h.2.0 in
        record {
          reported = ends.WriteFailed 0;
          answers = (status, reports);
          shows = inl (planned_so plan.0 h.0 (h.1 file_system agrees) plan.1 (ends.WriteFailed 0) (refl, plan.2));
        }
    shows_plan outcomes.HelpPrinted h status reports = absurd h.2.0
    shows_plan outcomes.HelpUnwritten h status reports = absurd h.2.0
    shows_plan outcomes.BadCommandLine h status reports = absurd h.2.0

  -- no script has these bytes
  module _ (b : List ℕ) (at : file_at file_system path ≡ Some b) (none : (ss : List Statement) → Reads b ss → ⊥) where
    not_read : {P : Type 0} (c : List ℕ) → file_at file_system path ≡ Some c → (ss : List Statement) → Reads c ss → P
    not_read c other ss reads = absurd (none ss (subst (λ (x : List ℕ). Reads x ss) (same_some (sym other ∙ at)) reads))

    pub refuses : (s : Bool) (outcome : Outcome) → Serves consistent path u s [] a.out.taken (counts_answered a) outcome →
        a.status ≡ status_of_outcome outcome
        → Reports [] a.err.taken (err_counts_of a) (message_of outcome) → RefusesOver b a
    refuses true (outcomes.Ended end_) h status reports = absurd h.2.0
    refuses false (outcomes.Ended end_) h status reports = not_read h.0 (h.1 file_system agrees) h.2.0.0 h.2.0.1
    refuses s (outcomes.Refused refusal) h status reports =
        let wrong = h.1 file_system agrees in
        inl (refusal, subst (λ (x : List ℕ). IsWrong x refusal) (same_some (sym wrong.1 ∙ at)) wrong.2, status, reports, h.0)
    refuses s outcomes.NoScript h status reports = there (file_at file_system path) (h.1 file_system agrees) at
    refuses s outcomes.Unreadable h status reports = inr (ends.ReadFailed 0, (status, reports), (refl, h.0, h.1))
    refuses s outcomes.NoMemory h status reports = inr (ends.NoMemory 0, (status, reports), (refl, h))
    refuses true outcomes.PlanPrinted h status reports = let plan = h.2.0.1 in not_read h.0 (h.1 file_system agrees) plan.0 plan.1
    refuses false outcomes.PlanPrinted h status reports = absurd h.2
    refuses true outcomes.PlanUnwritten h status reports = let plan = h.2.0.1 in not_read h.0 (h.1 file_system agrees) plan.0 plan.1
    refuses false outcomes.PlanUnwritten h status reports = absurd h.2
    refuses true outcomes.HelpPrinted h status reports = absurd h.2.0
    refuses false outcomes.HelpPrinted h status reports = absurd h.2
    refuses true outcomes.HelpUnwritten h status reports = absurd h.2.0
    refuses false outcomes.HelpUnwritten h status reports = absurd h.2
    refuses true outcomes.BadCommandLine h status reports = absurd h.2.0
    refuses false outcomes.BadCommandLine h status reports = absurd h.2

  -- there is no file
  module _ (gone : file_at file_system path ≡ None) where
    pub misses : (s : Bool) (outcome : Outcome) → Serves consistent path u s [] a.out.taken (counts_answered a) outcome →
        a.status ≡ status_of_outcome outcome
        → Reports [] a.err.taken (err_counts_of a) (message_of outcome) → MissesOver a
    misses s (outcomes.Ended end_) h status reports = there (file_at file_system path) gone (h.1 file_system agrees)
    misses s (outcomes.Refused refusal) h status reports = there (file_at file_system path) gone (h.1 file_system agrees).1
    misses s outcomes.NoScript h status reports = inl (status, reports, h.0)
    misses s outcomes.Unreadable h status reports = inr (ends.ReadFailed 0, (status, reports), (refl, h.0, h.1))
    misses s outcomes.NoMemory h status reports = inr (ends.NoMemory 0, (status, reports), (refl, h))
    misses s outcomes.PlanPrinted h status reports = there (file_at file_system path) gone (h.1 file_system agrees)
    misses s outcomes.PlanUnwritten h status reports = there (file_at file_system path) gone (h.1 file_system agrees)
    misses s outcomes.HelpPrinted h status reports = there (file_at file_system path) gone (h.1 file_system agrees)
    misses s outcomes.HelpUnwritten h status reports = there (file_at file_system path) gone (h.1 file_system agrees)
    misses s outcomes.BadCommandLine h status reports = there (file_at file_system path) gone (h.1 file_system agrees)

-- new devices have counted nothing and taken nothing
pub comes_of_new : (consistent : FileSystem → Type 0) (words : List (List ℕ)) (outcome : Outcome) (out old : List ℕ) (n : Counts)
    → n.files_before ≡ 0 → n.sink_before ≡ 0 → n.puts_before ≡ 0 → n.finished_before ≡ 0 → old ≡ [] → ComesTo consistent words old out n
    outcome
    → ComesTo consistent words [] out (record n { files_before = 0; sink_before = 0; puts_before = 0; finished_before = 0 }) outcome
comes_of_new consistent words outcome out old n files failed puts finished taken h =
    subst (λ (x : List ℕ). ComesTo consistent words x out
    (record n { files_before = 0; sink_before = 0; puts_before = 0; finished_before = 0 }) outcome) taken
    (subst (λ (k : ℕ). ComesTo consistent words old out
    (record n { files_before = 0; sink_before = 0; puts_before = 0; finished_before = k }) outcome) finished
    (subst (λ (k : ℕ). ComesTo consistent words old out (record n { files_before = 0; sink_before = 0; puts_before = k }) outcome) puts
    (subst (λ (k : ℕ). ComesTo consistent words old out (record n { files_before = 0; sink_before = k }) outcome) failed
    (subst (λ (k : ℕ). ComesTo consistent words old out (record n { files_before = k }) outcome) files h))))

pub reports_of_new : (message said old : List ℕ) (n : SinkCounts) → n.failed_before ≡ 0 → n.ended_before ≡ 0 → old ≡ [] →
    Reports old said n message
    → Reports [] said (record n { failed_before = 0; ended_before = 0 }) message
reports_of_new message said old n failed ended taken h =
    subst (λ (x : List ℕ). Reports x said (record n { failed_before = 0; ended_before = 0 }) message) taken
    (subst (λ (k : ℕ). Reports old said (record n { failed_before = 0; ended_before = k }) message) ended
    (subst (λ (k : ℕ). Reports old said (record n { failed_before = k }) message) failed h))

module _ (consistent : FileSystem → Type 0) (words : List (List ℕ)) (a : Answer) (drove : Drove consistent words a)
    (file_system : FileSystem)
    (agrees : consistent file_system) (path : List ℕ) where
  pub runs_over : OneScript → ReadHasNoError → (b : List ℕ) (unplanned : Bool) (ss : List Statement) → AsksFor words path unplanned false
      → file_at file_system path ≡ Some b → Reads b ss → RunsOver b ss file_system a
  runs_over one sound b unplanned ss asks at reads =
      runs consistent file_system agrees path unplanned a one sound b ss at reads drove.outcome
      (served consistent words path unplanned false asks a drove.outcome drove.comes) drove.status drove.reports

  pub shows_over : OneScript → ReadHasNoError → (b : List ℕ) (unplanned : Bool) (ss : List Statement) → AsksFor words path unplanned true
      → file_at file_system path ≡ Some b → Reads b ss → ShowsOver unplanned b ss a
  shows_over one sound b unplanned ss asks at reads =
      shows_plan consistent file_system agrees path unplanned a one sound b ss at reads drove.outcome
      (served consistent words path unplanned true asks a drove.outcome drove.comes) drove.status drove.reports

  pub refuses_over : (b : List ℕ) (unplanned show_plan : Bool) → AsksFor words path unplanned show_plan → file_at file_system path ≡ Some b
      → ((ss : List Statement) → Reads b ss → ⊥) → RefusesOver b a
  refuses_over b unplanned show_plan asks at none =
      refuses consistent file_system agrees path unplanned a b at none show_plan drove.outcome
      (served consistent words path unplanned show_plan asks a drove.outcome drove.comes) drove.status drove.reports

  pub misses_over : (unplanned show_plan : Bool) → AsksFor words path unplanned show_plan → file_at file_system path ≡ None → MissesOver a
  misses_over unplanned show_plan asks gone =
      misses consistent file_system agrees path unplanned a gone show_plan drove.outcome
      (served consistent words path unplanned show_plan asks a drove.outcome drove.comes) drove.status drove.reports
