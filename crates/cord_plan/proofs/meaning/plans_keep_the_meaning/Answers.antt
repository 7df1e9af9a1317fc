use Rattle.cord_plan.proofs.MeaningKept.{decided_keeps}
use Rattle.cord_plan.proofs.meaning.plans_keep_the_meaning.Goals as goal

pub returns : goal.returns
returns c = record {
  never_stuck = λ limit most s files d nested ok. (decided_keeps limit most files s d nested ok).never_stuck;
  members = λ limit most s files d nested ok. (decided_keeps limit most files s d nested ok).members;
  end = λ limit most s files d nested ok. (decided_keeps limit most files s d nested ok).end;
}
