-- Plans of decisions that meet the conditions keep the meaning, and so does the plan of a script that is read.
use Rattle.cord_plan.proofs.Common.{ℕ, Bool, List, [], map, Some, sym, subst, IsSome, FileSystem, Statement, Grammar, ReadsBy, IsNested}
use Rattle.cord_plan.proofs.Common.{start_state, shape_of, reported_same, end_same, IsLater, Operation, planned, trivial, plan_rules}
use Rattle.cord_plan.proofs.Common.{start_holding, KeepsMeaning, Decisions, MeetsConditions, decided}
use Rattle.cord_meaning.specs.Statements.{rules}
use Rattle.cord_meaning.proofs.ReadScripts.{read_nested}
use Rattle.cord_plan.proofs.Decided.{Related}
use Rattle.cord_plan.proofs.Beside.{plan_simulates, related_some, related_first}
use Rattle.cord_plan.proofs.Stays.{each_related}
use Rattle.cord_plan.proofs.Planning.{decisions, meets, planned_decided}
use Rattle.cord_plan.proofs.ReadKinds.{read_kinds}
use Rattle.cord_plan.proofs.TrivialDecided.{plain_decisions, trivial_decided, trivial_meets}

module _ (limit most : ℕ) (files : FileSystem) (s : List Statement) where
  pub decided_keeps : (d : Decisions) → IsNested [] (map shape_of s) → MeetsConditions s d → KeepsMeaning limit most files s (decided d s)
  decided_keeps d nested ok = record {
    never_stuck = each_related (rules limit files) (plan_rules limit files) most s (decided d s) (Related s d ok limit files)
        (plan_simulates s d ok limit files) (λ t. IsSome t) (related_some s d ok limit files) nested start_state (Some start_holding)
        (related_first s d ok limit files);
    members = reported_same (rules limit files) (plan_rules limit files) most s (decided d s) (Related s d ok limit files)
        (plan_simulates s d ok limit files) nested start_state (Some start_holding) (related_first s d ok limit files);
    end = end_same (rules limit files) (plan_rules limit files) most s (decided d s) (Related s d ok limit files)
        (plan_simulates s d ok limit files) nested start_state (Some start_holding) (related_first s d ok limit files);
  }

  pub planned_keeps : (g : Grammar) (text : List ℕ) (later : List ℕ → ℕ → Bool) → ReadsBy g text s → IsLater s later →
      KeepsMeaning limit most files s (planned s later)
  planned_keeps g text later read is =
      subst (λ (plan : List Operation). KeepsMeaning limit most files s plan) (sym (planned_decided s later))
      (decided_keeps (decisions s later) (read_nested {g = g} text s read) (meets s later is (read_kinds g text s read)))

  pub trivial_keeps : (g : Grammar) (text : List ℕ) → ReadsBy g text s → KeepsMeaning limit most files s (trivial s)
  trivial_keeps g text read =
      subst (λ (plan : List Operation). KeepsMeaning limit most files s plan) (sym (trivial_decided s))
      (decided_keeps (plain_decisions s) (read_nested {g = g} text s read) (trivial_meets s (read_kinds g text s read)))
