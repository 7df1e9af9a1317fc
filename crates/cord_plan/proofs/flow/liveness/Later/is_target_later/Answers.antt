use Rattle.cord_plan.proofs.Common.{rules}
use Rattle.cord_plan.proofs.flow.liveness.Later.is_target_later.Goals as goal

pub returns-in-ByLines : goal.returns-in-ByLines
returns-in-ByLines c = λ l x target reported number. search (rules, target, reported)
