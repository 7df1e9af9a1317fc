use Rattle.cord_search.proofs.Common.{ap, arith, length, refl, span_len, ◌≡◌}
use Rattle.cord_search.proofs.Lemmas.{answer_so, answered, not_read, shown, whole_part}
use Rattle.cord_search.proofs.pieces.first_piece.Goals as goal

pub returns-in-Bytes : goal.returns-in-Bytes
returns-in-Bytes g c =
    let long : span_len c.args.span ≡ length c.in-Bytes.bytes.now = ap span_len c.in-Bytes.is in
    answered (omega (arith, long, c.requires.some), omega (arith, long)) (shown not_read (λ t held. whole_part t 0 c.in-Bytes.is refl))

pub returns : goal.returns
returns g c = answer_so c.part_of.ensures (λ piece long. (
  (omega (arith, long, c.piece_len-count.ensures.some, c.len.ensures, c.requires.some), omega (arith, long, c.piece_len-count.ensures.inside, c.len.ensures)),
  λ t part. part,
))
