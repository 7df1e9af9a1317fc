use Rattle.cord_search.proofs.Common.{arith}
use Rattle.std.proofs.lemmas.Grind.{common_steps}
use Rattle.cord_search.proofs.spans.misfits.Goals as goal

-- a must-fail edit breaks it
pub returns-in-Some-clause-misfit : goal.returns-in-Some-clause-misfit
returns-in-Some-clause-misfit c = grind (arith, common_steps)
