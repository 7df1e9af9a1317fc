use Rattle.std.specs.Prelude.{◌≡◌}
use Rattle.cord_plan.proofs.Common.{ℕ, List, map, Option, Some, None, length, refl, sym, ap, ◌∙◌, option_map, slice_get, slice_get-map}
use Rattle.cord_plan.proofs.Common.{slice_get_read, slice_get_past, expression_in, expression_of, operation_expression, operation_view, table_view}
use Rattle.cord_plan.specs.declared.operations.Operation.{Operation}
use Rattle.cord_plan.proofs.planner.operand_choices.expression_at.Goals as goal

-- the expression of the operation at a place
there : (os : List Operation) (p : ℕ) (o : Option Operation) → o ≡ slice_get os p →
    expression_of (option_map operation_expression (option_map operation_view o)) ≡ expression_in (table_view os) p
there os p o is =
    ap (λ (q : Option Operation). expression_of (option_map operation_expression (option_map operation_view q))) is
    ∙ sym (ap expression_of (slice_get-map operation_expression (map operation_view os) p
    ∙ ap (option_map operation_expression) (slice_get-map operation_view os p)))

pub returns : goal.returns
returns c =
    let os = c.args.operations.now in
    let o = c.in_ok-get.field-0.now in
    let found : slice_get os c.args.place ≡ Some o =
    slice_get_read os (length os) c.args.place o refl c.in_ok-get.ensures.lookup.3.0 c.in_ok-get.ensures.lookup.1 in
    c.expression_of.ensures ∙ there os c.args.place (Some o) (sym found)

pub returns-in_err-get : goal.returns-in_err-get
returns-in_err-get c =
    let os = c.args.operations.now in
    rw c.from_residual.ensures (there os c.args.place None (sym (slice_get_past os c.args.place c.in_err-get.ensures.lookup.3)))
