use Rattle.cord_script.proofs.Common.{rules}
use Rattle.cord_script.specs.Forms.{form_of}
use Rattle.cord_script.proofs.grammar.wants_of.Goals as goal

pub returns-in-Composition-Cat : goal.returns-in-Composition-Cat
unfolding form_of
returns-in-Composition-Cat c = search rules
