use Rattle.cord_plan.proofs.Common.{refl}
use Rattle.cord_plan.proofs.TrivialDecided.{plain_decisions, trivial_decided, trivial_meets}
use Rattle.cord_plan.proofs.Planning.{decisions, meets, planned_decided}
use Rattle.cord_plan.proofs.ReadKinds.{read_kinds}
use Rattle.cord_plan.proofs.meaning.planned_scripts_meet_the_conditions.Goals as goal

pub returns : goal.returns
returns c = record {
  meets = λ s later reported kinds. (decisions s later, meets s later reported kinds, planned_decided s later);
  trivial = λ s kinds. (plain_decisions s, trivial_meets s kinds, trivial_decided s, λ p x. (refl, refl, refl));
  kinds = λ g text s read. read_kinds g text s read;
}
