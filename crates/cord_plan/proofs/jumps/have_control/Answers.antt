use Rattle.std.specs.Prelude.{◌≡◌}
use Rattle.cord_plan.proofs.Common.{below_more, Some, false, inl, inr, length, map, refl, sym, ap, ◌∙◌, arith, option_map, slice_get}
use Rattle.cord_plan.proofs.Common.{is_block, leb_tells, slice_get-map, slice_get_past, slice_get_read, operation_shape, operation_view}
use Rattle.cord_plan.proofs.Nexts.{all_next, is_block_shape}
use Rattle.cord_plan.proofs.jumps.have_control.Goals as goal

pub loop-operation-preserved : goal.loop-operation-preserved
loop-operation-preserved c =
    let os = c.args.operations.now in
    let n = c.loop-operation.operation-index in
    let o = c.operation-item.result in
    let shapes = map operation_shape (map operation_view os) in
    let there : slice_get os n ≡ Some o = slice_get_read os (length os) n o refl c.loop-operation-test.true c.operation-item.is in
    let seen : slice_get shapes n ≡ Some (operation_shape (operation_view o)) =
    slice_get-map operation_shape (map operation_view os) n
    ∙ ap (option_map operation_shape) (slice_get-map operation_view os n ∙ ap (option_map operation_view) there) in
    let here : is_block_shape (slice_get shapes n) ≡ false =
    ap is_block_shape seen ∙ (ap is_block (sym c.operation_shape.ensures) ∙ (sym c.is_block.ensures ∙ c.if-is_block.false)) in
    below_more (λ p. is_block_shape (slice_get shapes p) ≡ false) n c.loop-operation.invariant here

pub returns : goal.returns
returns c =
    let os = c.args.operations.now in
    let shapes = map operation_shape (map operation_view os) in
    λ e. all_next shapes (λ p. elim (leb_tells (length os) p) [
      | inl w ↦ ap is_block_shape (slice_get-map operation_shape (map operation_view os) p
          ∙ ap (option_map operation_shape) (slice_get-map operation_view os p ∙ ap (option_map operation_view) (slice_get_past os p w.1)))
      | inr w ↦ c.loop-operation.invariant p (omega (arith, w.1))
    ])
