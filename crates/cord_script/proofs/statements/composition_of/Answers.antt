use Rattle.cord_script.proofs.Common.{rules}
use Rattle.cord_script.proofs.statements.composition_of.Goals as goal

-- a must-fail edit breaks it
pub returns-in_ok-target-in-Cat : goal.returns-in_ok-target-in-Cat
returns-in_ok-target-in-Cat c = search rules
