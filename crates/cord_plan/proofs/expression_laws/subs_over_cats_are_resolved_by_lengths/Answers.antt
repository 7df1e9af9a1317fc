use Rattle.cord_plan.proofs.Common.{refl}
use Rattle.cord_plan.proofs.Resolved.{resolves}
use Rattle.cord_plan.proofs.expression_laws.subs_over_cats_are_resolved_by_lengths.Goals as goal

pub returns : goal.returns
returns c = record {
  resolves = λ limit s es lens text i n lengths h. resolves limit s es lens text i n lengths h;
  seam = refl;
  untouched = refl;
}
