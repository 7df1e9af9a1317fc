use Rattle.cord_script.proofs.Common.{refl, ◌∙◌, ap, wants_of_pieces}
use Rattle.cord_script.proofs.LineReading.{first_field}
use Rattle.cord_script.proofs.statements.sprintf_of.Goals as goal

pub returns : goal.returns
returns c = record {
  word = refl;
  effect = refl;
  numbered = refl;
  fields = first_field _ _ c.in_ok-target.ensures.gave (first_field _ _ c.in_ok-text.ensures.gave c.in_ok-arguments.ensures.gave);
  suits = (c.in_ok-text.ensures.format, c.in_ok-arguments.ensures.wants ∙ ap wants_of_pieces c.as_ref.ensures);
}
