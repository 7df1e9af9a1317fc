use Rattle.std.proofs.Common.{ap}
use Rattle.cord_meaning.specs.Faults.{text_of as fault_text}
use Rattle.cord_shell.specs.Outcomes.{message_of_end}
use Rattle.cord_io.specs.SinkCounts.{sink_counts}
use Rattle.cord_shell.proofs.Messages.{reported_at}
use Rattle.cord_shell.proofs.outcome.report_end.Goals as goal

pub returns-in-Fault : goal.returns-in-Fault
returns-in-Fault g c =
    let sink = g.T.Sink in
    let old = c.args.err.now in
    let new = c.put_message_at.new.err in
    let counts = sink_counts sink old new in
    reported_at (sink.taken old) (sink.taken new) counts c.in-Fault.line c.text.result.now (fault_text c.in-Fault.kind)
    (message_of_end c.args.end.now) c.put_message_at.ensures c.text.ensures (ap message_of_end c.in-Fault.is)
