use Rattle.cord_script.proofs.Common.{refl}
use Rattle.cord_script.proofs.LineReading.{first_field}
use Rattle.cord_script.proofs.statements.catn_of.Goals as goal

pub returns : goal.returns
returns c = record {
  word = refl;
  effect = refl;
  numbered = refl;
  fields = first_field _ _ c.in_ok-target.ensures.gave c.in_ok-parts.ensures.gave;
  suits = (c.in_ok-parts.ensures.low, c.in_ok-parts.ensures.high);
}
