use Rattle.cord_search.proofs.Common.{ap, arith, length, span_len, ◌-◌, ◌≡◌}
use Rattle.cord_search.proofs.Lemmas.{answer_so, answered, not_read, shown, whole_part}
use Rattle.cord_search.proofs.pieces.last_piece.Goals as goal

pub returns-in-Bytes : goal.returns-in-Bytes
returns-in-Bytes g c =
    let long : span_len c.args.span ≡ length c.in-Bytes.bytes.now = ap span_len c.in-Bytes.is in
    answered (omega (arith, long, c.requires.some), omega (arith, long))
    (shown not_read (λ t held. whole_part t (span_len c.args.span - length c.in-Bytes.bytes.now) c.in-Bytes.is (omega (arith, long))))

pub returns : goal.returns
returns g c = answer_so c.part_of.ensures (λ piece long.
    let from : span_len c.args.span - length piece.now ≡ c.len-len.result - c.piece_len-count.result = omega (arith, long, c.len-len.ensures) in (
      (
        omega (arith, long, c.piece_len-count.ensures.some, c.len-len.ensures, c.requires.some),
        omega (arith, long, c.piece_len-count.ensures.inside, c.len-len.ensures),
      ),
      λ t part. rw from part,
    ))
