-- Lemmas of this crate that answers cite, passed on from one place. Declares nothing.
pub use Rattle.cord_iter.proofs.Backs.{all_down, back_next, back_prefix, cord_len, downward, empty_walk, left_prev}
pub use Rattle.cord_iter.proofs.Cuts.{IsCut, IsSplit, cut_of, failed_first, range_cut, range_on, same_text, stopped_first, then_second, walked_here}
pub use Rattle.cord_iter.proofs.Cuts.{walked_none, walked_over}
pub use Rattle.cord_iter.proofs.Takes.{AreSides, appends_both, cat_sides, on_err, prefix_take, put_len, put_most, put_prefix, put_text, puts_both}
pub use Rattle.cord_iter.proofs.Takes.{puts_none, puts_some, run_more, run_stopped, writes_err}
pub use Rattle.cord_iter.proofs.Walks.{range_rest, run_on, run_stop, same_walk, walk_next, walk_stop_in}
