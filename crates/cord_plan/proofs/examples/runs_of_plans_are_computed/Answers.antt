use Rattle.cord_plan.proofs.Common.{refl}
use Rattle.cord_plan.proofs.examples.runs_of_plans_are_computed.Goals as goal

pub returns : goal.returns
returns c = record {
  seam_puts = refl;
  seam_ends = refl;
  seam_stands = refl;
  len_serves = refl;
  stuck = refl;
  missing = refl;
  too_long = refl;
}
