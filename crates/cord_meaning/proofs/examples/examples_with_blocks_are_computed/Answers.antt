use Rattle.cord_meaning.proofs.Common.{refl}
use Rattle.cord_meaning.proofs.Computed.{means_after}
use Rattle.cord_meaning.proofs.examples.examples_with_blocks_are_computed.Goals as goal

pub returns : goal.returns
returns c = record {
  loop_reads_next_turn = means_after 12 refl refl;
  repeat_zero = means_after 3 refl refl;
  repeat_count_read_once = means_after 11 refl refl;
  if_else_both_assign = means_after 8 refl refl;
  if_without_else_keeps = means_after 6 refl refl;
  turns_at_the_limit = means_after 5 refl refl;
  turns_one_too_many = means_after 4 refl refl;
}
