-- Lemmas of this crate that answers cite, passed on from one place. Declares nothing.
pub use Rattle.cord_pos.proofs.Counts.{depth_limit, level_depth}
pub use Rattle.cord_pos.proofs.GoTo.{found, taken}
pub use Rattle.cord_pos.proofs.SpotBytes.{part_some, spot_ahead, spot_behind, spot_byte, spot_part, spot_rest_ahead, spot_rest_behind}
pub use Rattle.cord_pos.proofs.Standings.{bound_moved, index_inside, move_one_part, moved_inside, next_move, next_no_earlier, next_still}
pub use Rattle.cord_pos.proofs.Standings.{position_cord, prev_move, prev_still, set_bound, set_inside, set_limit, still, walk_empty, walk_first}
pub use Rattle.cord_pos.proofs.Standings.{walk_last, walk_next}
pub use Rattle.cord_pos.proofs.Steps.{IsSide, ends_at_part, is_side}
pub use Rattle.cord_pos.proofs.Within.{func_span, range_span, run_span}
