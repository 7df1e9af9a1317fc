use Rattle.std.proofs.Common.{subst, ◌∙◌}
use Rattle.cord_shell.specs.Reports.{SaysMessage}
use Rattle.cord_io.specs.SinkCounts.{sink_counts}
use Rattle.cord_shell.proofs.outcome.put_message_at.Goals as goal

pub returns : goal.returns
returns g c =
    let sink = g.T.Sink in
    let old = c.args.err.now in
    let new = c.put_message.new.err in
    let counts = sink_counts sink old new in
    subst (SaysMessage (sink.taken old) (sink.taken new) counts) (c.as_str.ensures.value ∙ c.message_at-message.ensures) c.put_message.ensures
