-- The outcome of a run.
use Rattle.std.specs.Prelude.{Result, Ok, Err}
use Rattle.cord_meaning.specs.declared.ends.End.{End}
use Rattle.cord_script.specs.declared.refusals.Refusal.{Refusal}
use Rattle.cord_shell.specs.declared.outcome.Outcome.{Outcome}
use Rattle.cord_shell.specs.declared.outcome.Outcome.TheVariants as outcomes

-- what a run comes to
abbrev pub outcome_of : Result End Refusal → Outcome
outcome_of (Ok end_) = outcomes.Ended end_
outcome_of (Err refusal) = outcomes.Refused refusal
