use Rattle.cord_search.proofs.Common.{List, Shows, ap, arith, length, refl, rules, ℕ, ◌+◌, ◌≡◌, ◌≤◌}
use Rattle.cord_search.proofs.Lemmas.{IsNextPiece, found_in, misfit_on, nowhere_in, shown_on, shown_so, window_none, window_some}
use Rattle.cord_search.proofs.substring.first_at_or_after.Given.{Over}
use Rattle.cord_search.proofs.substring.first_at_or_after.Goals.{In_ok-window}
use Rattle.cord_search.proofs.substring.first_at_or_after.Goals as goal

-- the window is the piece of the text that begins at the place
next_is : (g : Over) (c : In_ok-window g) → Shows g.S.Source c.args.src.now c.window_at.new.src
    (λ t. IsNextPiece t c.args.x.now c.args.finder.now c.args.start c.loop-head.place c.in_ok-window.window.now)
next_is g c = shown_on c.loop-head.invariant.none c.in_ok-window.ensures.window (λ t held none piece. record {
  none = none;
  piece = rw (c.span_from-span.ensures.moved.cord, c.loop-head.invariant.position.cord) at piece;
})

pub window_at-requires-clause-text : goal.window_at-requires-clause-text
window_at-requires-clause-text g c =
    rw (c.span_from-span.ensures.moved.cord, c.loop-head.invariant.position.cord, c.loop-head.invariant.none.read.lengths)
    (record { sound = c.set-position.ensures.sound; fits = c.requires.fits })

pub loop-head-preserved-then-skipped-gt0 : goal.loop-head-preserved-then-skipped-gt0
loop-head-preserved-then-skipped-gt0 g c =
    let before = c.loop-head.invariant in
    record {
      low = omega (arith, before.low);
      none = shown_so before.none (λ t held none. misfit_on c.args.start c.misfits-skipped.result
          c.args.finder.now held (rw before.position.cord at c.span_from-span.ensures.span)
          (record { sound = c.set-position.ensures.sound; fits = c.requires.fits })
          (rw c.needle-head.ensures at c.misfits-skipped.ensures.misfit) none);
      position = rw before.position.cord at c.span_from-span.ensures.moved;
    }

pub loop-head-preserved : goal.loop-head-preserved
loop-head-preserved g c =
    let before = c.loop-head.invariant in
    let enough : length c.args.finder.now ≤ length c.in_ok-window.window.now =
    rw c.needle-head.ensures at c.in_ok-window.ensures.window.always.0 in
    record {
      low = omega (arith, before.low);
      none = rw c.needle-head.ensures (window_none (next_is g (goal.at.loop-head-preserved g c).In_ok-window) c.in-None.is c.find.ensures enough);
      position = rw (c.span_from-span.ensures.moved.cord, before.position.cord) at c.in_ok-window.ensures.moved;
    }

pub returns-in-Some : goal.returns-in-Some
returns-in-Some g c = found_in c.args.x.now (λ t. c.args.finder.now) c.args.end c.args.start (c.loop-head.place + c.in-Some.found) (λ t held. refl)
    (window_some (next_is g (goal.at.returns-in-Some g c).In_ok-window) c.in-Some.is c.find.ensures c.requires.some c.loop-head.invariant.low)
    (omega (arith, c.loop-head.invariant.low)) (search rules)

pub returns : goal.returns
returns g c =
    let long : length c.needle-head.result.now ≡ length c.args.finder.now = ap (λ (ys : List ℕ). length ys) c.needle-head.ensures in
    nowhere_in c.args.x.now (λ t. c.args.finder.now) c.args.end c.args.start c.loop-head.place (λ t held. refl) c.loop-head.invariant.none
    (omega (arith, c.lies_inside.ensures.outside c.loop-head-test.false, long))
