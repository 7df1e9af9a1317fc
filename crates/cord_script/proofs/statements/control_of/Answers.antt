use Rattle.cord_script.proofs.Common.{refl, sym, ap, verb_effect}
use Rattle.cord_script.specs.declared.verbs.FixedVerb.TheVariants.{Control}
use Rattle.cord_script.specs.declared.verbs.Verb.TheVariants.{Fixed}
use Rattle.cord_script.proofs.LineReading.{spelled, no_field}
use Rattle.cord_script.proofs.statements.control_of.Goals as goal

pub returns-in-Else : goal.returns-in-Else
returns-in-Else c = record {
  word = spelled Control c.in-Else.is;
  effect = ap (λ k. verb_effect (Fixed (Control k))) (sym c.in-Else.is);
  numbered = refl;
  fields = no_field _;
  suits = tt;
}

pub returns-in-End : goal.returns-in-End
returns-in-End c = record {
  word = spelled Control c.in-End.is;
  effect = ap (λ k. verb_effect (Fixed (Control k))) (sym c.in-End.is);
  numbered = refl;
  fields = no_field _;
  suits = tt;
}
