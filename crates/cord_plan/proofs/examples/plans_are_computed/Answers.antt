use Rattle.cord_plan.proofs.Common.{refl, codes}
use Rattle.cord_plan.specs.Examples.{substr_of_unread_cat_too_long, plan_of}
use Rattle.cord_plan.proofs.Numerals.{greatest_length, unread_cat_shows}
use Rattle.cord_plan.proofs.examples.plans_are_computed.Goals as goal

pub returns : goal.returns
returns c = record {
  hello = refl;
  hello_trivial = refl;
  substr_over_seam = refl;
  show_trivial_plan = refl;
  substr_of_unread_cat_too_long = unread_cat_shows (plan_of 5 substr_of_unread_cat_too_long) 1099511627775
      (codes "1099511627775") refl greatest_length;
  operand_assigned_between = refl;
  loop_reads_next_turn = refl;
  if_else_both_assign = refl;
  if_without_else_keeps = refl;
  cat_in_cat = refl;
  path_is_escaped = refl;
}
