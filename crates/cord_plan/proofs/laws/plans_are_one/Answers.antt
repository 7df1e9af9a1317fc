use Rattle.cord_plan.proofs.Common.{ap, planned}
use Rattle.std.proofs.Math.Path.{fun_ext}
use Rattle.cord_plan.proofs.Flows.{one_oracle}
use Rattle.cord_plan.proofs.laws.plans_are_one.Goals as goal

pub returns : goal.returns
returns c = λ s one other reported same. ap (planned s) (fun_ext (λ x. fun_ext (λ p. one_oracle s one other reported same x p)))
