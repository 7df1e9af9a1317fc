use Rattle.cord_run.proofs.Common.{CountsFaults, CountsStops, Err, FailureCounts, IsPrefixOf, List, MAX_LEN, Node, Option, Result, Stop}
use Rattle.cord_run.proofs.Common.{Takes, Wrote, all_bytes, ap, expr_view, handed_on, plain_of, refl, stop_of_cord, subst, text_in, ℕ, ◌∙◌}
use Rattle.cord_run.proofs.Common.{◌≡◌, ◌++◌}
use Rattle.cord_run.proofs.Output.{short_counts, short_wrote, stop_counts, unbuilt_counts, wrote_nothing, wrote_part, wrote_whole}
use Rattle.cord_run.proofs.expressions.output.write.Goals as goal

pub returns-in-Some : goal.returns-in-Some
returns-in-Some g c =
    let entries = c.args.store.now.entries.items in
    let e = expr_view c.args.expression.now in
    let old = c.args.sink.now in
    let new = c.put_short.new.sink in
    let put = c.in-Some.put in
    let reported = c.in-Some.ensures in
    record {
      wrote = λ file_system agrees there. short_wrote g.S.Sink entries e old new put reported
          (g.R.Source.table c.args.source.now file_system) there;
      counts = short_counts g.S.Sink entries e old new put reported (g.R.Source.failures c.args.source.now);
      finished = reported.2.0.finished;
      source = record { lengths = refl; table = refl; earlier = λ file_system agrees. agrees };
    }

pub returns-in_err-pieces-in-None : goal.returns-in_err-pieces-in-None
returns-in_err-pieces-in-None g c =
    let entries = c.args.store.now.entries.items in
    let e = expr_view c.args.expression.now in
    let stop = c.in_err-pieces-in-None.field-0.0 in
    let refused = c.in_err-pieces-in-None.ensures.refused in
    let left = c.in-None.ensures in
    let is = handed_on stop c.from_residual.result c.from_residual.ensures.1 in
    record {
      wrote = λ file_system agrees there.
          let t = g.R.Source.table c.args.source.now file_system in
          let a = g.S.Sink.taken c.args.sink.now in
          let b = g.S.Sink.taken c.put_short.new.sink in
          subst (λ (r : Result (Unit {0}) Stop). Wrote (text_in MAX_LEN (plain_of t entries) e) a b r) is
          (wrote_nothing entries e (g.R.Source.lengths c.args.source.now) c.requires.over a b t
          (g.met.R.Source.lengths_of_table c.args.source.now file_system agrees) there stop refused (ap g.S.Sink.taken left));
      counts =
          let source = g.R.Source.failures c.args.source.now in
          let n : FailureCounts = record { source = source; sink = g.S.Sink.failures c.args.sink.now } in
          let m : FailureCounts = record { source = source; sink = g.S.Sink.failures c.put_short.new.sink } in
          subst (λ (r : Result (Unit {0}) Stop). CountsStops n m r) is
          (unbuilt_counts entries e stop n m refused refl (ap g.S.Sink.failures left));
      finished = ap g.S.Sink.finished left;
      source = record { lengths = refl; table = refl; earlier = λ file_system agrees. agrees };
    }

pub returns-in_err-put_pieces-in-None : goal.returns-in_err-put_pieces-in-None
returns-in_err-put_pieces-in-None g c =
    let entries = c.args.store.now.entries.items in
    let e = expr_view c.args.expression.now in
    let put = c.in_err-put_pieces-in-None.ensures in
    let error = c.in_err-put_pieces-in-None.field-0.0 in
    let pieces = c.in_ok-pieces-in-None.pieces.items in
    let left = c.in-None.ensures in
    let is = handed_on (stop_of_cord error) c.from_residual-in_err-put_pieces-in-None.result c.from_residual-in_err-put_pieces-in-None.ensures.1 in
    record {
      wrote = λ file_system agrees there.
          let t = g.R.Source.table c.args.source.now file_system in
          let a = g.S.Sink.taken c.args.sink.now in
          let b = g.S.Sink.taken c.put_pieces.new.sink in
          subst (λ (r : Result (Unit {0}) Stop). Wrote (text_in MAX_LEN (plain_of t entries) e) a b r) is
          (wrote_part entries e (g.R.Source.lengths c.args.source.now) c.requires.over a b t
          (g.met.R.Source.lengths_of_table c.args.source.now file_system (put.source.earlier file_system agrees)) there pieces error _ _
          put.faults c.in_ok-pieces-in-None.ensures.whole.0
          (subst (λ (x : List ℕ). Takes (IsPrefixOf (all_bytes t pieces)) x b) (ap g.S.Sink.taken left)
          (subst (λ (ps : List (Option Node)). Takes (IsPrefixOf (all_bytes t ps)) (g.S.Sink.taken c.put_short.new.sink) b)
          c.deref.ensures.value (put.puts file_system agrees))));
      counts =
          let n : FailureCounts = record { source = g.R.Source.failures c.args.source.now; sink = g.S.Sink.failures c.args.sink.now } in
          let m : FailureCounts = record {
            source = g.R.Source.failures c.put_pieces.new.source;
            sink = g.S.Sink.failures c.put_pieces.new.sink;
          } in
          subst (λ (r : Result (Unit {0}) Stop). CountsStops n m r) is
          (stop_counts error n m (subst (λ (k : ℕ). CountsFaults {T = Unit {0}} (record { source = n.source; sink = k }) m (Err error))
          (ap g.S.Sink.failures left) put.faults));
      finished = put.finished ∙ ap g.S.Sink.finished left;
      source = put.source;
    }

pub returns-in_ok-put_pieces-in-None : goal.returns-in_ok-put_pieces-in-None
returns-in_ok-put_pieces-in-None g c =
    let entries = c.args.store.now.entries.items in
    let put = c.in_ok-put_pieces-in-None.ensures in
    let pieces = c.in_ok-pieces-in-None.pieces.items in
    let left = c.in-None.ensures in
    record {
      wrote = λ file_system agrees there.
          let t = g.R.Source.table c.args.source.now file_system in
          let b = g.S.Sink.taken c.put_pieces.new.sink in
          wrote_whole entries (expr_view c.args.expression.now) (g.R.Source.lengths c.args.source.now) c.requires.over
          (g.S.Sink.taken c.args.sink.now) b t
          (g.met.R.Source.lengths_of_table c.args.source.now file_system (put.source.earlier file_system agrees)) there pieces
          c.in_ok-pieces-in-None.ensures.whole.0 (subst (λ (x : List ℕ). b ≡ x ++ all_bytes t pieces) (ap g.S.Sink.taken left)
          (subst (λ (ps : List (Option Node)). b ≡ g.S.Sink.taken c.put_short.new.sink ++ all_bytes t ps) c.deref.ensures.value
          (put.puts file_system agrees)));
      counts = (put.faults.0, put.faults.1 ∙ ap g.S.Sink.failures left);
      finished = put.finished ∙ ap g.S.Sink.finished left;
      source = put.source;
    }
