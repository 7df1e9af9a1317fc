use Rattle.cord_plan.proofs.MeaningKept.{planned_keeps}
use Rattle.cord_plan.proofs.meaning.planned_scripts_keep_the_meaning.Goals as goal

pub returns : goal.returns
returns c = record {
  never_stuck = λ limit most g text s files later read is.
      (planned_keeps limit most files s g text later read is).never_stuck;
  members = λ limit most g text s files later read is. (planned_keeps limit most files s g text later read is).members;
  end = λ limit most g text s files later read is. (planned_keeps limit most files s g text later read is).end;
}
