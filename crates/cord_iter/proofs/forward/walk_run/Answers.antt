use Rattle.cord_iter.proofs.Common.{PIECE_LEN, arith, false, replicate, sym, take, true, walk, ◌+◌, ◌≡◌, ◌≤◌}
use Rattle.cord_iter.proofs.Lemmas.{run_on, run_stop}
use Rattle.cord_iter.proofs.forward.walk_run.Goals as goal

pub returns-then-bytes : goal.returns-then-bytes
returns-then-bytes g c =
    let state = g.V.Visitor.state in
    let step = g.V.Visitor.step in
    let inside : c.loop-done.done + c.piece_len-count.result ≤ c.args.len = omega (arith, c.piece_len-count.ensures.inside) in
    let piece : walk step (state c.loop-done.visitor) (take c.piece_len-count.result (replicate PIECE_LEN c.args.byte))
    ≡ (state c.bytes.new.self, true) = rw c.if-bytes.true at (sym c.bytes.ensures) in
    run_stop step (state c.args.visitor.now) (state c.loop-done.visitor) (state c.bytes.new.self) c.args.byte c.args.len c.loop-done.done
    c.piece_len-count.result PIECE_LEN inside c.piece_len-count.ensures.most c.loop-done.invariant.walked piece

pub loop-done-preserved : goal.loop-done-preserved
loop-done-preserved g c =
    let state = g.V.Visitor.state in
    let step = g.V.Visitor.step in
    let piece : walk step (state c.loop-done.visitor) (take c.piece_len-count.result (replicate PIECE_LEN c.args.byte))
    ≡ (state c.bytes.new.self, false) = rw c.if-bytes.false at (sym c.bytes.ensures) in
    record {
      in_range = omega (arith, c.piece_len-count.ensures.inside);
      walked = run_on step (state c.args.visitor.now) (state c.loop-done.visitor)
          (state c.bytes.new.self, false) c.args.byte c.loop-done.done c.piece_len-count.result PIECE_LEN c.piece_len-count.ensures.most
          c.loop-done.invariant.walked piece;
    }
