use Rattle.std.specs.Prelude.{◌≡◌, ◌<◌}
use Rattle.cord_plan.proofs.Common.{List, Some, map, length, sym, ap, ◌∙◌, arith, length-map, jump, shape_view, operation_shape}
use Rattle.cord_plan.proofs.Common.{operation_view}
use Rattle.cord_meaning.specs.Blocks as blocks
use Rattle.cord_plan.specs.declared.operations.Operation.{Operation}
use Rattle.cord_plan.specs.declared.flow.successors.Shape.{Shape}
use Rattle.cord_plan.proofs.Pushed.{reported_more, size_more}
use Rattle.cord_plan.proofs.jumps.jumps.Goals as goal

-- as many shapes as operations
as_many : (shapes : List Shape) (operations : List Operation) →
    map shape_view shapes ≡ map operation_shape (map operation_view operations) → length shapes ≡ length operations
as_many shapes operations same =
    sym (length-map shapes shape_view) ∙ (ap (λ (xs : List blocks.Shape). length xs) same
    ∙ (length-map (map operation_view operations) operation_shape ∙ length-map operations operation_view))

pub loop-place-preserved : goal.loop-place-preserved
loop-place-preserved c =
    let shapes = c.in_ok-shapes.shapes.items in
    let is : c.jump.result ≡ jump (map shape_view shapes) c.loop-place.place =
    c.jump.ensures ∙ ap (λ (xs : List Shape). jump (map shape_view xs) c.loop-place.place) c.deref.ensures.value in
    record {
      size = size_more c.loop-place.places.items c.push.new.self.items c.jump.result c.loop-place.place c.in_ok-push.ensures.items
          c.loop-place.invariant.size;
      reported = reported_more (λ k. jump (map shape_view shapes) k) c.loop-place.places.items c.push.new.self.items c.jump.result
          c.loop-place.place c.in_ok-push.ensures.items c.loop-place.invariant.size is c.loop-place.invariant.reported;
    }

pub returns-clause-size : goal.returns-clause-size
returns-clause-size c =
    let many : length c.in_ok-shapes.shapes.items ≡ length c.args.operations.now =
    as_many c.in_ok-shapes.shapes.items c.args.operations.now c.in_ok-shapes.ensures in
    omega arith

pub returns-clause-reported : goal.returns-clause-reported
returns-clause-reported c = λ p lt.
    let many : length c.in_ok-shapes.shapes.items ≡ length c.args.operations.now =
    as_many c.in_ok-shapes.shapes.items c.args.operations.now c.in_ok-shapes.ensures in
    let before : p < c.loop-place.place = omega arith in
    c.loop-place.invariant.reported p before ∙ ap (λ (xs : List blocks.Shape). Some (jump xs p)) c.in_ok-shapes.ensures
