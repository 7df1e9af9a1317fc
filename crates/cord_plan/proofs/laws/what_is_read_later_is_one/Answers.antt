use Rattle.cord_plan.proofs.Flows.{one_oracle}
use Rattle.cord_plan.proofs.laws.what_is_read_later_is_one.Goals as goal

pub returns : goal.returns
returns c = λ s one other x p reported same. one_oracle s one other reported same x p
