use Rattle.std.specs.Prelude.{◌≡◌}
use Rattle.cord_plan.proofs.Common.{below_more, Some, false, inl, inr, length, refl, sym, ap, ◌∙◌, arith, slice_get, leb_tells}
use Rattle.cord_plan.proofs.Common.{slice_get_past, slice_get_read, is_block, is_block_at}
use Rattle.cord_plan.proofs.flow.successors.has_blocks.Goals as goal

pub loop-statement-preserved : goal.loop-statement-preserved
loop-statement-preserved c =
    let s = c.args.statements.now in
    let n = c.loop-statement.statement-index in
    let l = c.statement-item.result in
    let there : slice_get s n ≡ Some l = slice_get_read s (length s) n l refl c.loop-statement-test.true c.statement-item.is in
    let here : is_block_at (slice_get s n) ≡ false = ap is_block_at there
    ∙ (ap is_block (sym c.shape_of.ensures) ∙ (sym c.is_block.ensures ∙ c.if-is_block.false)) in
    below_more (λ p. is_block_at (slice_get s p) ≡ false) n c.loop-statement.invariant here

pub returns : goal.returns
returns c =
    let s = c.args.statements.now in
    λ e p. elim (leb_tells (length s) p) [
      | inl w ↦ ap is_block_at (slice_get_past s p w.1)
      | inr w ↦ c.loop-statement.invariant p (omega (arith, w.1))
    ]
