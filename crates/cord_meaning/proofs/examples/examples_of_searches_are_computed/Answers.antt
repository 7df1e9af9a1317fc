use Rattle.cord_meaning.proofs.Common.{refl}
use Rattle.cord_meaning.proofs.Computed.{means_after}
use Rattle.cord_meaning.proofs.examples.examples_of_searches_are_computed.Goals as goal

pub returns : goal.returns
returns c = record {
  str_at_later_place = means_after 8 refl refl;
  str_from_past_it = means_after 8 refl refl;
  str_empty_at_end = means_after 8 refl refl;
  str_empty_past_end = means_after 8 refl refl;
  str_over_seam = means_after 8 refl refl;
  rchr_from_end = means_after 5 refl refl;
  chr_from_start = means_after 5 refl refl;
  chr_absent = means_after 5 refl refl;
  chr_past_end = means_after 2 refl refl;
  cmp_unsigned = means_after 6 refl refl;
  cmp_prefix_is_less = means_after 6 refl refl;
  ncmp_equal_part = means_after 6 refl refl;
  ncmp_one_byte_more = means_after 6 refl refl;
  sprintf_pads = means_after 4 refl refl;
  sprintf_numbers = means_after 3 refl refl;
  sprintf_negative_hex = means_after 1 refl refl;
}
