use Rattle.cord_io.specs.SinkCounts.{sink_counts}
use Rattle.cord_shell.proofs.Messages.{said}
use Rattle.cord_shell.proofs.outcome.put_message.Goals as goal

pub returns : goal.returns
returns g c =
    let sink = g.T.Sink in
    let old = c.args.err.now in
    let new = c.write_text.new.sink in
    let counts = sink_counts sink old new in
    said (sink.taken old) (sink.taken new) c.args.message.now counts c.write_text.result c.write_text.ensures.ok c.write_text.ensures.err
