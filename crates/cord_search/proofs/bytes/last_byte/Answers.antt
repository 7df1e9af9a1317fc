use Rattle.cord_search.proofs.Common.{HasNot, Shows, arith, length, ◌+◌, ◌-◌, ◌≡◌}
use Rattle.cord_search.proofs.Lemmas.{answer_on, last_found, last_none, last_on, not_read, shown, shown_new, span_fits}
use Rattle.cord_search.proofs.bytes.last_byte.Given.{Over}
use Rattle.cord_search.proofs.bytes.last_byte.Goals.{In-None}
use Rattle.cord_search.proofs.bytes.last_byte.Goals as goal

-- the byte stands nowhere in the piece, where it isn't found
none_is : (g : Over) (c : In-None g) → Shows g.S.Source c.args.src.now c.last_piece.new.src
    (λ t. HasNot t c.args.x.now c.args.byte (c.args.at + 1 - length c.in_ok-piece.piece.now) (c.args.at + 1))
none_is g c = last_on c.args.at (shown not_read (λ t held q low to there. omega (arith, low, to))) c.in_ok-piece.ensures c.cord_span_to-span.ensures
    c.requires.fits c.memrchr.ensures c.in-None.is

pub last_piece-requires-clause-fits : goal.last_piece-requires-clause-fits
last_piece-requires-clause-fits g c = span_fits (not_read {s = g.S.Source} {a = c.args.src.now}) c.cord_span_to-span.ensures.span c.requires.fits

pub returns-in-Some : goal.returns-in-Some
returns-in-Some g c =
    let piece = c.in_ok-piece.piece.now in
    let start : c.args.at - (length piece - 1) ≡ c.args.at + 1 - length piece = omega (arith, c.in_ok-piece.ensures.always.0) in
    rw start (last_found c.args.at (shown not_read (λ t held q low to there. omega (arith, low, to))) c.in_ok-piece.ensures c.cord_span_to-span.ensures
    c.requires.fits c.memrchr.ensures c.in-Some.is (omega arith))

pub last_before-requires-clause-none : goal.last_before-requires-clause-none
last_before-requires-clause-none g c =
    let piece = c.in_ok-piece.piece.now in
    let start : c.args.at - (length piece - 1) ≡ c.args.at + 1 - length piece = omega (arith, c.in_ok-piece.ensures.always.0) in
    rw start (shown_new (none_is g (goal.at.last_before-requires-clause-none g c).In-None))

pub returns-else-start-eq0 : goal.returns-else-start-eq0
returns-else-start-eq0 g c = answer_on c.in_ok-piece.ensures.read c.last_before.ensures

pub returns-then-start-eq0 : goal.returns-then-start-eq0
returns-then-start-eq0 g c = last_none c.args.x.now c.args.byte c.args.at (c.args.at + 1 - length c.in_ok-piece.piece.now)
    (omega (arith, c.if-start-eq0.true, c.in_ok-piece.ensures.always.0)) (none_is g (goal.at.returns-then-start-eq0 g c).In-None)
