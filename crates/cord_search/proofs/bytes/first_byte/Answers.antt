use Rattle.cord_search.proofs.Common.{HasNot, Shows, arith, length, ◌+◌}
use Rattle.cord_search.proofs.Lemmas.{answer_on, block_span, first_found, first_none, first_on, not_read, shown, shown_new, span_fits}
use Rattle.cord_search.proofs.bytes.first_byte.Given.{Over}
use Rattle.cord_search.proofs.bytes.first_byte.Goals.{In-None}
use Rattle.cord_search.proofs.bytes.first_byte.Goals as goal

-- the byte stands nowhere in the piece, where it isn't found
none_is : (g : Over) (c : In-None g) → Shows g.S.Source c.args.src.now c.first_piece.new.src
    (λ t. HasNot t c.args.x.now c.args.byte c.args.from (c.args.from + length c.in_ok-piece.piece.now))
none_is g c = first_on (shown not_read (λ t held q low to there. omega (arith, low, to))) c.in_ok-piece.ensures
    (block_span c.in_block-span.ensures c.cord_span_at.ensures) c.requires.fits c.memchr.ensures c.in-None.is

pub first_piece-requires-clause-fits : goal.first_piece-requires-clause-fits
first_piece-requires-clause-fits g c = span_fits (not_read {s = g.S.Source} {a = c.args.src.now})
    (block_span c.in_block-span.ensures c.cord_span_at.ensures) c.requires.fits

pub returns-in-Some : goal.returns-in-Some
returns-in-Some g c = first_found (shown not_read (λ t held q low to there. omega (arith, low, to))) c.in_ok-piece.ensures
    (block_span c.in_block-span.ensures c.cord_span_at.ensures) c.requires.fits c.memchr.ensures c.in-Some.is (omega arith)

pub first_after-requires-clause-none : goal.first_after-requires-clause-none
first_after-requires-clause-none g c = shown_new (none_is g (goal.at.first_after-requires-clause-none g c).In-None)

pub returns-then-after-len : goal.returns-then-after-len
returns-then-after-len g c = answer_on c.in_ok-piece.ensures.read c.first_after.ensures

pub returns-else-after-len : goal.returns-else-after-len
returns-else-after-len g c = first_none c.args.from (c.args.from + length c.in_ok-piece.piece.now)
    (none_is g (goal.at.returns-else-after-len g c).In-None) (record { sound = c.len-len.ensures.sound; fits = c.requires.fits })
    (omega (arith, c.if-after-len.false, c.len-len.ensures.stored))
