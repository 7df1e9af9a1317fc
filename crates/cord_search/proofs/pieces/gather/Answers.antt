use Rattle.cord_search.proofs.Common.{arith}
use Rattle.cord_search.proofs.Lemmas.{answered, not_read, prefix_piece, set_valid, shown_once, span_fits}
use Rattle.cord_search.proofs.pieces.gather.Goals as goal

pub copy_prefix-requires-clause-fits : goal.copy_prefix-requires-clause-fits
copy_prefix-requires-clause-fits g c = span_fits (not_read {s = g.S.Source} {a = c.args.src.now}) c.cord_span_at-span.ensures c.requires.fits

pub gather_by-requires-clause-text : goal.gather_by-requires-clause-text
gather_by-requires-clause-text g c = rw c.set-position.ensures.cord (record { sound = c.set-position.ensures.sound; fits = c.requires.fits })

pub gather_by-requires-clause-valid : goal.gather_by-requires-clause-valid
gather_by-requires-clause-valid g c = rw c.set-position.ensures.index
    (set_valid c.args.cord.now c.args.place (omega (arith, c.requires.some, c.requires.inside)))

pub returns-then-out-len : goal.returns-then-out-len
returns-then-out-len g c =
    answered tt (shown_once c.in_ok-copy_prefix.ensures (λ t held part. prefix_piece held
    c.cord_span_at-span.ensures c.requires.fits c.copy_prefix.new.out (omega (arith, c.copy_prefix.auto.out, c.if-out-len.true, c.len.ensures)) part))

pub returns : goal.returns
returns g c = rw c.set-position.ensures.cord at c.in_ok-gather_by.ensures.text
