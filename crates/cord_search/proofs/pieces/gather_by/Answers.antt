use Rattle.cord_search.proofs.Common.{IsSpanOf, arith, drop, length, length-drop, length-take-le, ◌+◌, ◌-◌, ◌∙◌, ◌≡◌}
use Rattle.cord_search.proofs.Lemmas.{cord_limit, filled_inside, filled_on, prefix_piece, shown_on, span_fits}
use Rattle.cord_search.proofs.pieces.gather_by.Given.{Over}
use Rattle.cord_search.proofs.pieces.gather_by.Goals.{After-span_from-span}
use Rattle.cord_search.proofs.pieces.gather_by.Goals as goal

-- the span is what the text has after what is filled
span_is : (g : Over) (c : After-span_from-span g) →
    IsSpanOf c.args.position.now.cord (c.args.place + c.loop-done.done) c.span_from-span.result
span_is g c = rw c.loop-done.invariant.position.cord at c.span_from-span.ensures.span

pub overflow_add-place : goal.overflow_add-place
overflow_add-place g c =
    omega (arith, c.requires.inside, c.loop-done-test.true, c.loop-done.auto.out, cord_limit c.args.position.now.cord c.requires.text.sound)

pub span_from-span-requires-clause-inside : goal.span_from-span-requires-clause-inside
span_from-span-requires-clause-inside g c = rw c.loop-done.invariant.position.cord
    (omega (arith, c.requires.inside, c.loop-done-test.true, c.loop-done.auto.out))

pub copy_prefix-requires-clause-fits : goal.copy_prefix-requires-clause-fits
copy_prefix-requires-clause-fits g c = span_fits c.loop-done.invariant.filled.read
    (span_is g (goal.at.copy_prefix-requires-clause-fits g c).After-span_from-span) c.requires.text.fits

pub loop-done-preserved : goal.loop-done-preserved
loop-done-preserved g c =
    let done = c.loop-done.done in
    let n = c.min-count.result in
    let part = c.copy_prefix.new.out in
    let before = c.loop-done.invariant in
    let span = span_is g (goal.at.loop-done-preserved g c).After-span_from-span in
    let cut = length-take-le (done + n - done) (drop done c.loop-done.out)
    (omega (arith, c.min-count.ensures, length-drop done c.loop-done.out)) in
    let long : length part ≡ n = omega (arith, c.copy_prefix.auto.out ∙ cut) in
    record {
      in_range = filled_inside done _ n c.loop-done.out part long before.in_range;
      filled = shown_on before.filled c.in_ok-copy_prefix.ensures (λ t held filled text. filled_on t
          c.args.position.now.cord c.args.place done _ n c.loop-done.out part filled (prefix_piece held span c.requires.text.fits part
          (omega (arith, long, c.min-count.ensures, c.len.ensures)) text) long before.in_range);
      position = rw before.position.cord at c.span_from-span.ensures.moved;
    }
