use Rattle.cord_run.proofs.Common.{ℕ, List, ap, map, subst, sym, device_in, Finishes, SinkCounts, sink_counts, MAX_LEN, MAX_TURNS, End}
use Rattle.cord_run.proofs.Common.{FaithfulOutput, plan_end, plan_trace, Operation, operation_view, Closes, end_of_run}
use Rattle.cord_run.proofs.Meaning.{closed_fails, closed_faithful, closed_named, no_put_failed, put_failed, run_fails}
use Rattle.cord_run.proofs.runner.run_over.Goals as goal

pub returns : goal.returns
returns g c =
    let operations : List Operation = map operation_view c.args.plan.now in
    let taken : List ℕ = g.S.Sink.taken c.args.sink.now in
    let reported : End = c.close_output.result in
    let n : SinkCounts = sink_counts g.S.Sink c.run_plan.new.sink c.close_output.new.sink in
    let closes = subst (λ (e : End). Closes n e reported) c.end_of_run-own.ensures c.close_output.ensures.closes in
    let before = g.met.S.Sink.failures_are c.args.sink.now in
    let after = g.met.S.Sink.failures_are c.run_plan.new.sink in
    let named = closed_named (g.F.Files.failures (device_in c.args.sources.now)) (g.F.Files.failures (device_in c.run_plan.new.sources))
    (g.S.Sink.failures c.args.sink.now)
    (g.S.Sink.failures c.run_plan.new.sink) (g.S.Sink.failures c.close_output.new.sink) (g.S.Sink.finished c.args.sink.now).ended
    (g.S.Sink.finished c.run_plan.new.sink).ended (g.S.Sink.finished c.close_output.new.sink).ended (g.S.Sink.failed_puts c.args.sink.now)
    (g.S.Sink.failed_puts c.run_plan.new.sink) (g.S.Sink.failed_puts c.close_output.new.sink) c.requires.files_count
    c.requires.sink_count (ap (λ (f : Finishes). f.ended) c.run_plan.ensures.finished)
    (no_put_failed _ _ _ _ _ _ before after c.run_plan.ensures.finished c.requires.sink_count)
    (put_failed _ _ _ _ _ _ before after c.run_plan.ensures.finished c.requires.sink_count) c.close_output.ensures.puts
    operations c.run_plan.result c.run_plan.ensures.counts c.run_plan.ensures.fails reported closes in
    record {
      earlier = c.run_plan.ensures.earlier;
      faithful = λ file_system agrees fit.
          let ms = plan_trace MAX_LEN MAX_TURNS operations file_system in
          let meant = plan_end MAX_LEN MAX_TURNS operations file_system in
          subst (λ (put : List ℕ). FaithfulOutput ms meant taken put reported) (sym c.close_output.ensures.taken)
          (closed_faithful ms meant taken (g.S.Sink.taken c.run_plan.new.sink) n (end_of_run c.run_plan.result) reported closes
          (c.run_plan.ensures.faithful file_system agrees fit));
      fails = closed_fails operations n (end_of_run c.run_plan.result) reported closes
          (run_fails operations c.run_plan.result c.run_plan.ensures.fails);
      cause = named.0;
      finish = named.1;
    }
