use Rattle.cord_search.proofs.Common.{arith, bytes_of}
use Rattle.cord_search.proofs.Lemmas.{byte_of_range, not_read, prefix_piece, shown_once, shown_over, span_fits}
use Rattle.cord_search.proofs.bytes.fetch.Goals as goal

pub copy_prefix-requires-clause-fits : goal.copy_prefix-requires-clause-fits
copy_prefix-requires-clause-fits g c = span_fits (not_read {s = g.S.Source} {a = c.args.src.now}) c.cord_span_at.ensures c.requires.fits

pub returns-clause-byte : goal.returns-clause-byte
returns-clause-byte g c =
    let out = c.copy_prefix.new.out in
    let span = c.cord_span_at.ensures in
    shown_over (shown_once c.in_ok-copy_prefix.ensures (λ t held part. byte_of_range (bytes_of t c.args.x.now) out c.args.i
    (prefix_piece held span c.requires.fits out (omega (arith, span.some, c.copy_prefix.auto.out)) part) (omega (arith, c.copy_prefix.auto.out))))
    g.met.S.Source.lengths_of_table
