use Rattle.cord_plan.proofs.Flows.{not_in, path_of, settled}
use Rattle.cord_plan.proofs.laws.fixed_points_report_what_is_read.Goals as goal

pub returns : goal.returns
returns c = record {
  not_live = λ s table x p fixed e path r. not_in s table fixed x p e path r;
  read = λ s k x p e. ((path_of s k x p e).path, (path_of s k x p e).reads);
  later = λ s k fixed. settled s k fixed;
}
