use Rattle.cord_plan.proofs.Common.{List, sym, subst, All, KeepsNoOther, Operation}
use Rattle.cord_plan.proofs.MeaningKept.{trivial_keeps}
use Rattle.cord_plan.proofs.OnlyKept.{kept_trivial}
use Rattle.cord_plan.proofs.plans.Plan.trivial.Goals as goal

pub of-requires-2 : goal.of-requires-2
of-requires-2 c =
    record {
      kept = subst (λ (os : List Operation). All KeepsNoOther os) (sym c.in_ok-operations.ensures.made)
          (kept_trivial c.statements-statements.result.now);
      extending = rw c.new.ensures.items (λ place reported. let bad : ⊥ = cc in absurd bad);
      distinct = c.into_names.ensures;
    }

pub returns-clause-means : goal.returns-clause-means
returns-clause-means c = λ g text read limit most files.
    rw (c.of-2.ensures, c.in_ok-operations.ensures.made, c.statements-statements.ensures)
    (trivial_keeps limit most files c.args.script.now g text read)
