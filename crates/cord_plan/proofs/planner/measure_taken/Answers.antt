use Rattle.std.specs.Prelude.{◌≡◌, ◌<◌}
use Rattle.cord_plan.proofs.Common.{Bool, List, false, get_or, refl, length, map, sym, ap, ◌∙◌, arith, length-map, take_all, operation_view}
use Rattle.cord_plan.specs.declared.operations.Operation as program
use Rattle.cord_plan.proofs.Measuring.{all_planned, flag_set, measured_by, measured_if}
use Rattle.cord_plan.proofs.planner.measure_taken.Goals as goal

pub loop-place-preserved : goal.loop-place-preserved
loop-place-preserved c =
    let old = map operation_view c.args.operations.now in
    let v = get_or c.args.taken.now c.loop-place.place false in
    let size : length c.loop-place.operations ≡ length c.args.operations.now = c.loop-place.auto.operations in
    let long : length old ≡ length c.args.operations.now = length-map c.args.operations.now operation_view in
    let inside : c.loop-place.place < length c.loop-place.operations = omega (arith, size, c.requires, c.loop-place-test.true) in
    let both : length c.loop-place.operations ≡ length old = omega (arith, size, long) in
    flag_set c.args.taken.now c.loop-place.place v c.loop-place.operations old c.index-operations-place.result
    c.measure_if.new.operation c.loop-place-test.true refl inside both c.loop-place.invariant c.index-operations-place.is
    (c.measure_if.ensures ∙ ap (λ (o : program.Operation). measured_if v (operation_view o)) (sym c.index-operations-place.is))

pub returns : goal.returns
returns c = λ s later unpaired.
    c.loop-place.invariant
    ∙ (ap (λ (vs : List Bool). measured_by vs (map operation_view c.args.operations.now))
    (take_all c.loop-place.place c.args.taken.now c.loop-place-test.false)
    ∙ all_planned s later (map operation_view c.args.operations.now) c.args.taken.now unpaired)
