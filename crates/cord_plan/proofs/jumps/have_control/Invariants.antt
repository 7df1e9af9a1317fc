use Rattle.std.specs.Prelude.{◌≡◌, ◌<◌}
use Rattle.cord_plan.proofs.Common.{ℕ, false, map, slice_get, operation_shape, operation_view}
use Rattle.cord_plan.proofs.Nexts.{is_block_shape}
use Rattle.cord_plan.proofs.jumps.have_control.Given as goal

-- no operation so far is control
abbrev pub invariant-loop-operation : goal.invariant-loop-operation
invariant-loop-operation l = (p : ℕ) → p < l.operation-index →
    is_block_shape (slice_get (map operation_shape (map operation_view l.operations)) p) ≡ false
