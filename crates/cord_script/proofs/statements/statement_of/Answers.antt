use Rattle.cord_script.proofs.Common.{◌∙◌, refl, sym, ap, verb_effect, verb_word}
use Rattle.cord_script.specs.declared.verbs.Verb.TheVariants.{Fixed}
use Rattle.cord_script.proofs.statements.statement_of.Goals as goal

pub returns-in_ok-operand-in-Put : goal.returns-in_ok-operand-in-Put
returns-in_ok-operand-in-Put c =
    let verb = sym (c.in-Fixed.is ∙ ap Fixed c.in-Put.is) in
    record {
      word = ap verb_word verb;
      effect = ap verb_effect verb;
      numbered = refl;
      fields = c.in_ok-operand-in-Put.ensures;
      suits = tt;
    }
