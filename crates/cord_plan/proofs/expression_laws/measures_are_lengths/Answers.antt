use Rattle.cord_plan.proofs.Common.{number_value}
use Rattle.cord_plan.proofs.Values.{measure_is}
use Rattle.cord_plan.proofs.expression_laws.measures_are_lengths.Goals as goal

pub returns : goal.returns
returns c = λ limit s e. measure_is limit s.texts (λ n. number_value s n) e
