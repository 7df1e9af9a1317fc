use Rattle.cord_iter.proofs.Common.{ap, arith, raised, ◌∙◌}
use Rattle.cord_iter.proofs.Lemmas.{run_more, run_stopped, writes_err}
use Rattle.cord_iter.proofs.pieces.put_repeated.Goals as goal

pub returns-in_err-put_all : goal.returns-in_err-put_all
returns-in_err-put_all g c = writes_err c.from_residual.ensures.0
    (run_stopped (g.W.Sink.taken c.args.sink.now) (g.W.Sink.taken c.loop-done.sink) (g.W.Sink.taken c.put_all.new.sink) c.args.byte
    c.args.len c.loop-done.done c.piece_len-count.result g.row.N (omega (arith, c.piece_len-count.ensures.inside))
    c.piece_len-count.ensures.most c.loop-done.invariant.taken c.in_err-put_all.ensures.err.0)
    (c.in_err-put_all.ensures.err.1 ∙ ap raised c.loop-done.invariant.count)
    (c.put_all.ensures.finished ∙ c.loop-done.invariant.finished)

pub loop-done-preserved : goal.loop-done-preserved
loop-done-preserved g c = record {
  in_range = omega (arith, c.piece_len-count.ensures.inside);
  taken = run_more (g.W.Sink.taken c.args.sink.now) (g.W.Sink.taken c.loop-done.sink) (g.W.Sink.taken c.put_all.new.sink) c.args.byte
      c.loop-done.done c.piece_len-count.result g.row.N c.piece_len-count.ensures.most c.loop-done.invariant.taken
      c.in_ok-put_all.ensures.ok.0;
  count = c.in_ok-put_all.ensures.ok.1 ∙ c.loop-done.invariant.count;
  finished = c.put_all.ensures.finished ∙ c.loop-done.invariant.finished;
}
