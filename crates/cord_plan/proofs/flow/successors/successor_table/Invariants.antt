use Rattle.std.specs.Prelude.{◌≡◌, ◌<◌, ◌≤◌, ◌+◌, ◌-◌}
use Rattle.cord_plan.proofs.Common.{ℕ, map, reverse, length, vec_len, vec_capacity, open_at, successors, shape_view, places_at}
use Rattle.cord_plan.proofs.flow.successors.successor_table.Given as goal

abbrev pub invariant-loop-p : goal.invariant-loop-p
invariant-loop-p l = record {
  opened : reverse l.blocks.items ≡ open_at (map shape_view l.shapes) l.p;
  size : length l.found.items ≡ l.p;
  room : vec_len l.found + (length l.shapes - l.p) ≤ vec_capacity l.found;
  reported : (k : ℕ) → k < l.p → places_at l.found.items k ≡ successors (map shape_view l.shapes) k;
}
