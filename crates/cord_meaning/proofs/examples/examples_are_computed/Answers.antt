use Rattle.cord_meaning.proofs.Common.{refl}
use Rattle.cord_meaning.proofs.Computed.{means_after}
use Rattle.cord_meaning.proofs.examples.examples_are_computed.Goals as goal

pub returns : goal.returns
returns c = record {
  hello = means_after 3 refl refl;
  substr_past_end = means_after 6 refl refl;
  substr_negative_index = means_after 2 refl refl;
  chars_byte_too_great = means_after 1 refl refl;
  catn_catc_balance = means_after 7 refl refl;
  ec_statements = means_after 9 refl refl;
  fetch_past_end = means_after 3 refl refl;
  operand_assigned_between = means_after 7 refl refl;
  add_overflows = means_after 2 refl refl;
  dead_file_missing = means_after 3 refl refl;
  file_twice = means_after 4 refl refl;
  at_the_limit = means_after 3 refl refl;
  past_the_limit = means_after 2 refl refl;
}
