use Rattle.cord_run.proofs.Common.{List, map, subst, sym, device_in, Counts, NamesDevice, Operation, operation_view, NamesFinish}
use Rattle.cord_run.proofs.Common.{counts_over, ◌≡◌}
use Rattle.cord_run.proofs.Meaning.{fails_where, ends_faithfully}
use Rattle.cord_run.proofs.runner.run.Goals as goal

pub returns-in-Ok : goal.returns-in-Ok
returns-in-Ok g c =
    let operations : List Operation = map operation_view c.args.plan.now in
    let e = c.run_over-end.result in
    let done = c.run_over-end.ensures in
    let sink = c.run_over-end.new.sink in
    let now = device_in c.run_over-end.new.sources in
    let n : Counts = counts_over g.F.Files g.S.Sink (device_in c.in-Ok.sources) now c.args.sink.now sink in
    let same : n ≡ counts_over g.F.Files g.S.Sink c.args.files c.close.result c.args.sink.now sink = λ i. record n {
      files_before = g.F.Files.failures (c.in-Ok.ensures.made.0 i);
      files_after = g.F.Files.failures (sym c.close.ensures i);
    } in
    let device = subst (λ (k : Counts). NamesDevice k e) same done.cause in
    let finish = subst (λ (k : Counts). NamesFinish operations k e) same done.finish in
    record {
      faithful = λ statements plan alike grammar script reads file_system agrees.
          ends_faithfully statements operations plan grammar script reads alike file_system (g.S.Sink.taken c.args.sink.now)
          (g.S.Sink.taken sink) _ e (done.faithful file_system (subst (λ f. g.F.Files.consistent f file_system) c.close.ensures agrees))
          done.fails device finish;
      fails = λ statements alike. fails_where statements operations alike e done.fails;
      cause = device;
      finish = finish;
      earlier = λ file_system agrees. subst (λ f. g.F.Files.consistent f file_system) c.in-Ok.ensures.made.0
          (done.earlier file_system (subst (λ f. g.F.Files.consistent f file_system) c.close.ensures agrees));
    }
