use Rattle.std.proofs.Common.{ℕ, List, Some, ◌≡◌, subst, sym}
use Rattle.cord_io.specs.Device.{file_at}
use Rattle.cord_run.specs.Runs.{counts_over}
use Rattle.cord_shell.proofs.Served.{run_at, printed_at}
use Rattle.cord_shell.proofs.program.serve.Goals as goal

pub returns-then-request-clause-run : goal.returns-then-request-clause-run
returns-then-request-clause-run g c =
    let sink = g.S.Sink in
    let request = c.args.request.now in
    let path = request.script.now in
    let counts = counts_over g.F.Files sink c.args.files c.read_whole.new.files c.args.out.now c.show_script.new.out in
    printed_at (g.F.Files.consistent c.read_whole.new.files) path request.unplanned c.deref.result.now (sink.taken c.args.out.now)
    (sink.taken c.show_script.new.out) counts
    (λ file_system agrees. subst (λ (b : List ℕ). file_at file_system path ≡ Some b) (sym c.deref.ensures.value)
    (c.in-Ok.ensures.found file_system agrees))
    request.show_plan c.show_script.result c.if-request.true c.show_script.ensures c.in-Ok.ensures.count

pub returns-clause-run : goal.returns-clause-run
returns-clause-run g c =
    let sink = g.S.Sink in
    let request = c.args.request.now in
    let path = request.script.now in
    let run = c.run_script in
    let counts = counts_over g.F.Files sink c.args.files run.result.1 c.args.out.now run.new.out in
    run_at (g.F.Files.consistent run.result.1) path request.unplanned c.deref-else-request.result.now (sink.taken c.args.out.now)
    (sink.taken run.new.out) counts
    (λ file_system agrees. subst (λ (b : List ℕ). file_at file_system path ≡ Some b) (sym c.deref-else-request.ensures.value)
    (c.in-Ok.ensures.found file_system (run.ensures.earlier file_system agrees)))
    request.show_plan run.result.0 c.if-request.false (g.F.Files.failures c.read_whole.new.files) c.in-Ok.ensures.count run.ensures.run
