use Rattle.cord_iter.proofs.Common.{List, PIECE_LEN, ap, arith, drop, length, length-replicate, length-take-le, replicate, sym, take, walk, ℕ, ◌∙◌}
use Rattle.cord_iter.proofs.Common.{◌≡◌}
use Rattle.cord_iter.proofs.Lemmas.{walked_none, walked_over}
use Rattle.cord_iter.proofs.forward.walk_piece.Goals as goal

pub returns-in_err-read : goal.returns-in_err-read
returns-in_err-read g c = walked_none c.from_residual.ensures.0 c.in_err-read.ensures.count (record {
  lengths = c.read.ensures.lengths;
  table = c.read.ensures.table;
  earlier = c.read.ensures.earlier;
})

pub returns : goal.returns
returns g c =
    let zero : ℕ = 0 in
    let count = c.args.count in
    let room : length (replicate PIECE_LEN zero) ≡ PIECE_LEN = length-replicate PIECE_LEN zero in
    let whole = length-take-le count (replicate PIECE_LEN zero) (omega (arith, room, c.requires.piece)) in
    let long : length c.read.new.out ≡ count = c.read.auto.out ∙ whole in
    walked_over (λ file_system agrees.
    let bytes = drop c.args.start (g.S.Source.table c.args.src.now file_system c.args.id.0) in
    ap (λ (xs : List ℕ). walk g.V.Visitor.step (g.V.Visitor.state c.args.visitor.now) xs)
    (ap (λ (k : ℕ). take k bytes) (sym long) ∙ sym (c.in_ok-read.ensures.bytes file_system agrees)) ∙ sym c.bytes.ensures)
    c.in_ok-read.ensures.count
    (record { lengths = c.read.ensures.lengths; table = c.read.ensures.table; earlier = c.read.ensures.earlier })
