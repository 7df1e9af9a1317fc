use Rattle.cord_plan.proofs.Common.{Some, None, refl, Option, ℕ, IsSome, State, start_state, reported_same, end_same, trivial, Holding}
use Rattle.cord_plan.proofs.Common.{plan_rules, start_holding}
use Rattle.cord_meaning.specs.Statements.{rules}
use Rattle.cord_plan.proofs.Trivial.{Same, trivial_simulates}
use Rattle.cord_plan.proofs.Stays.{each_related}
use Rattle.cord_plan.proofs.meaning.trivial_plans_keep_the_meaning.Goals as goal

is_some : (p : ℕ) (s : State) (t : Option Holding) → Same p s t → IsSome t
is_some p s None same = absurd same
is_some p s (Some h) same = refl

pub returns : goal.returns
returns c = record {
  never_stuck = λ limit most s files nested. each_related (rules limit files) (plan_rules limit files) most s
      (trivial s) Same (trivial_simulates limit files s) (λ t. IsSome t) is_some nested start_state (Some start_holding) refl;
  members = λ limit most s files nested. reported_same (rules limit files) (plan_rules limit files) most s (trivial s) Same
      (trivial_simulates limit files s) nested start_state (Some start_holding) refl;
  end = λ limit most s files nested. end_same (rules limit files) (plan_rules limit files) most s (trivial s) Same
      (trivial_simulates limit files s) nested start_state (Some start_holding) refl;
}
