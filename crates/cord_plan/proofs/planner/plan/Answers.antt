use Rattle.cord_plan.proofs.Common.{List, map, sym, ap, ◌∙◌, subst, All, Statement, KeepsNoOther, AreExtending}
use Rattle.cord_plan.proofs.Common.{reports, Operation, planned, operation_view, IsLater}
use Rattle.cord_plan.proofs.Extending.{all_extending}
use Rattle.cord_plan.proofs.MeaningKept.{planned_keeps}
use Rattle.cord_plan.proofs.OnlyKept.{kept_planned}
use Rattle.cord_plan.proofs.planner.plan.Goals as goal

pub returns-clause-means : goal.returns-clause-means
returns-clause-means c = λ g text read limit most files.
    let later = reports c.in_ok-later.later in
    let is : IsLater c.args.script.now later =
    subst (λ (s : List Statement). IsLater s later) c.statements-statements.ensures c.in_ok-later.ensures.later in
    rw (c.of-2.ensures, c.in_ok-operations.ensures.made, c.statements-statements.ensures)
    (planned_keeps limit most files c.args.script.now g text later read is)

pub returns-clause-made : goal.returns-clause-made
returns-clause-made c =
    let later = reports c.in_ok-later.later in (
      later,
      subst (λ (s : List Statement). IsLater s later) c.statements-statements.ensures c.in_ok-later.ensures.later,
      ap (map operation_view) c.of-2.ensures
          ∙ (c.in_ok-operations.ensures.made ∙ ap (λ s. planned s later) c.statements-statements.ensures),
    )

pub of-requires-2 : goal.of-requires-2
of-requires-2 c =
    let s = c.statements-statements.result.now in
    let later = reports c.in_ok-later.later in
    let made = c.in_ok-operations.ensures.made in
    record {
      kept = subst (λ (os : List Operation). All KeepsNoOther os) (sym made) (kept_planned s later);
      extending = subst (λ (os : List Operation). AreExtending c.in_ok-operations.extending.items os) (sym made)
          (all_extending s later c.in_ok-operations.extending.items c.in_ok-operations.ensures.extending);
      distinct = c.into_names.ensures;
    }
