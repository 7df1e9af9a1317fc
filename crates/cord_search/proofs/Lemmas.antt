-- Lemmas of this crate that answers cite, passed on from one place. Declares nothing.
pub use Rattle.cord_search.proofs.Comparing.{cmp_after, cord_limit, next_apart, next_same, no_different, pieces_end, pieces_same, sign_ranges}
pub use Rattle.cord_search.proofs.Comparing.{sign_whole, spans_differ, spans_same}
pub use Rattle.cord_search.proofs.Cuts.{cut_found, ends_within, first_whole, found_in, nowhere_in, prefix_none, whole_found}
pub use Rattle.cord_search.proofs.Finding.{byte_of_range, first_found, first_none, first_on, first_past, last_found, last_none, last_on, last_past}
pub use Rattle.cord_search.proofs.Finding.{nowhere_on}
pub use Rattle.cord_search.proofs.Lanes.{same_bytes}
pub use Rattle.cord_search.proofs.Lasts.{best_found, ends_before, last_empty, last_from, none_after}
pub use Rattle.cord_search.proofs.Moving.{moved_there, never_none, set_valid, up_to_end}
pub use Rattle.cord_search.proofs.Ranges.{func_part, leaf_part, of_source, prefix_piece, run_part, span_whole, take_on, whole_part}
pub use Rattle.cord_search.proofs.Reading.{answer_on, answer_so, answered, len_in, not_read, nothing, read_on, shown, shown_by, shown_new, shown_on}
pub use Rattle.cord_search.proofs.Reading.{shown_once, shown_over, shown_so, span_fits}
pub use Rattle.cord_search.proofs.Repeating.{agree_on, common_all, passed_long, passed_short}
pub use Rattle.cord_search.proofs.Sharing.{IsComparing, alike_on, block_span, prefix_span, spans_alike}
pub use Rattle.cord_search.proofs.Standing.{IsNextPiece, filled_inside, filled_on, misfit_on, nothing_stands, order_tells, prefix_on, stands_first}
pub use Rattle.cord_search.proofs.Standing.{stands_on, whole_text, window_none, window_some}
pub use Rattle.cord_search.proofs.Ways.{all_push, side_at, span_of, span_to, stop_kept, stops_alike}
