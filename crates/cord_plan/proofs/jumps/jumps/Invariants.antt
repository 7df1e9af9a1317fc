use Rattle.std.specs.Prelude.{◌≡◌, ◌<◌}
use Rattle.cord_plan.proofs.Common.{ℕ, Some, map, length, slice_get, jump, shape_view}
use Rattle.cord_plan.proofs.jumps.jumps.Given as goal

-- the places so far
abbrev pub invariant-loop-place : goal.invariant-loop-place
invariant-loop-place l = record {
  size : length l.places.items ≡ l.place;
  reported : (p : ℕ) → p < l.place → slice_get l.places.items p ≡ Some (jump (map shape_view l.shapes.items) p);
}
