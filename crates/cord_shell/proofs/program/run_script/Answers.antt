use Rattle.cord_run.specs.Runs.{counts_over}
use Rattle.cord_shell.proofs.Served.{answered}
use Rattle.cord_shell.proofs.program.run_script.Goals as goal

pub returns-then-unplanned-clause-run : goal.returns-then-unplanned-clause-run
returns-then-unplanned-clause-run g c =
    let sink = g.S.Sink in
    let run = c.run_unplanned-answer in
    let reported = run.ensures.reported in
    let counts = counts_over g.F.Files sink c.args.files run.result.1 c.args.out.now run.new.sink in
    rw c.of_run.ensures (answered (g.F.Files.consistent run.result.1) c.args.script.now (sink.taken c.args.out.now)
    (sink.taken run.new.sink) counts run.result.0 reported.run reported.cause reported.refused reported.unasked reported.first_error
    reported.no_memory)

pub returns-else-unplanned-clause-run : goal.returns-else-unplanned-clause-run
returns-else-unplanned-clause-run g c =
    let sink = g.S.Sink in
    let run = c.run_text-answer in
    let reported = run.ensures.reported in
    let counts = counts_over g.F.Files sink c.args.files run.result.1 c.args.out.now run.new.sink in
    rw c.of_run-else-unplanned.ensures (answered (g.F.Files.consistent run.result.1) c.args.script.now (sink.taken c.args.out.now)
    (sink.taken run.new.sink) counts run.result.0 reported.run reported.cause reported.refused reported.unasked reported.first_error
    reported.no_memory)
