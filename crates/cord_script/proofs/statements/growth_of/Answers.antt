use Rattle.cord_script.proofs.Common.{refl}
use Rattle.cord_script.specs.declared.verbs.FixedVerb.TheVariants.{Growth}
use Rattle.cord_script.proofs.LineReading.{spelled, one_field}
use Rattle.cord_script.proofs.statements.growth_of.Goals as goal

pub returns-in_ok-target-in-EcInit : goal.returns-in_ok-target-in-EcInit
returns-in_ok-target-in-EcInit c = record {
  word = spelled Growth c.in-EcInit.is;
  effect = refl;
  numbered = refl;
  fields = one_field c.in_ok-target-in-EcInit.ensures.gave;
  suits = tt;
}
