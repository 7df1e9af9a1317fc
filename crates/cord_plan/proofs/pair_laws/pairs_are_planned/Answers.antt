use Rattle.std.specs.Prelude.{◌∷◌}
use Rattle.cord_plan.proofs.Common.{[], refl, codes, Substr, numeral, replaced}
use Rattle.cord_plan.specs.Examples.{joined_over_seam}
use Rattle.cord_plan.proofs.PlannedPairs.{earlier_operation, later_operation}
use Rattle.cord_plan.proofs.pair_laws.pairs_are_planned.Goals as goal

pub returns-clause-earlier : goal.returns-clause-earlier
returns-clause-earlier c = λ s later a b t e pair. earlier_operation s later a b t e pair

pub returns-clause-later : goal.returns-clause-later
returns-clause-later c = λ s later a b t e pair. later_operation s later a b t e pair

pub returns-clause-seam : goal.returns-clause-seam
returns-clause-seam c = record {
  line = Substr 4 (codes "z") (codes "t") (numeral 2) (numeral 3);
  choices = replaced 2 joined_over_seam ∷ [];
  operand = 0;
  earlier = joined_over_seam;
  is_line = refl;
  is_expression = refl;
  is_operand = refl;
  is_replaced = refl;
}
