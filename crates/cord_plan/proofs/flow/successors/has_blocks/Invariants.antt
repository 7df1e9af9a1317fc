use Rattle.std.specs.Prelude.{◌≡◌, ◌<◌}
use Rattle.cord_plan.proofs.Common.{ℕ, false, slice_get, is_block_at}
use Rattle.cord_plan.proofs.flow.successors.has_blocks.Given as goal

-- no line so far belongs to a block
abbrev pub invariant-loop-statement : goal.invariant-loop-statement
invariant-loop-statement l = (p : ℕ) → p < l.statement-index → is_block_at (slice_get l.statements p) ≡ false
