use Rattle.cord_iter.proofs.Common.{ap, arith, drop, length, length-drop, raised, subst, sym, take, take-add, ◌++◌, ◌-◌, ◌∙◌, ◌≡◌, ◌≤◌}
use Rattle.cord_iter.proofs.Lemmas.{appends_both, prefix_take, writes_err}
use Rattle.std.proofs.lemmas.List.{take_rest}
use Rattle.cord_iter.proofs.pieces.put_all.Goals as goal

pub returns-in_err-done : goal.returns-in_err-done
returns-in_err-done g c = writes_err c.from_residual.ensures.0
    record {
      out = take c.loop-done.done c.args.bytes.now;
      such = prefix_take c.args.bytes.now c.loop-done.done;
      taken = c.in_err-done.ensures.refused ∙ c.loop-done.invariant.taken;
    }
    (c.in_err-done.ensures.count ∙ ap raised c.loop-done.invariant.count) (c.put.ensures.finished ∙ c.loop-done.invariant.finished)

pub loop-done-preserved : goal.loop-done-preserved
loop-done-preserved g c =
    let taken = g.W.Sink.taken in
    let done = c.loop-done.done in
    let bytes = c.args.bytes.now in
    let k = c.in_ok-done.field-0 in
    let rest : take (length bytes - done) (drop done bytes) ≡ drop done bytes = take_rest bytes done in
    let within : k ≤ length (drop done bytes) = subst (λ xs. k ≤ length xs) rest c.in_ok-done.ensures.some.1 in
    let both = appends_both (taken c.args.sink.now) (taken c.loop-done.sink) (taken c.put.new.self) (take done bytes)
    (take k (take (length bytes - done) (drop done bytes))) c.loop-done.invariant.taken c.in_ok-done.ensures.taken in
    record {
      in_range = omega (arith, within, length-drop done bytes);
      taken = both ∙ ap (λ xs. taken c.args.sink.now ++ xs) (ap (λ xs. take done bytes ++ take k xs) rest ∙ sym (take-add done k bytes));
      count = c.in_ok-done.ensures.count ∙ c.loop-done.invariant.count;
      finished = c.put.ensures.finished ∙ c.loop-done.invariant.finished;
    }
