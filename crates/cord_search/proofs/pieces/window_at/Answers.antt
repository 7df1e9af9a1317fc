use Rattle.cord_search.proofs.Common.{ap, arith, length, length-take, refl, rules, span_len, take, ◌≡◌}
use Rattle.cord_search.proofs.Lemmas.{answered, leaf_part, not_read, prefix_piece, shown}
use Rattle.cord_search.proofs.pieces.window_at.Goals as goal

pub returns-then-count-bytes-clause-window : goal.returns-then-count-bytes-clause-window
returns-then-count-bytes-clause-window g c =
    let bytes = c.in-Bytes.bytes.now in
    let most = c.min-most.result in
    let long : span_len c.args.span ≡ length bytes = ap span_len c.in-Bytes.is in
    let cut = length-take most bytes in
    answered (search rules) (shown not_read (λ t held. prefix_piece held c.requires.span
    c.requires.text.fits (take most bytes) (omega (arith, long, cut)) (leaf_part t (take most bytes) most c.in-Bytes.is refl)))
