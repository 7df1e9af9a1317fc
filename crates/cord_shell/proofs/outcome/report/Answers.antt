use Rattle.std.proofs.Common.{ap, codes, refl}
use Rattle.cord_meaning.specs.Faults.{text_of as fault_text}
use Rattle.cord_meaning.specs.declared.ends.FaultKind.TheVariants.{NoFile}
use Rattle.cord_script.specs.Refusals.{text_of}
use Rattle.cord_shell.specs.Outcomes.{message_of}
use Rattle.cord_io.specs.SinkCounts.{sink_counts}
use Rattle.cord_shell.proofs.Messages.{reported_at}
use Rattle.cord_shell.proofs.outcome.report.Goals as goal

pub returns-in-Refused : goal.returns-in-Refused
returns-in-Refused g c =
    let sink = g.T.Sink in
    let old = c.args.err.now in
    let new = c.put_message_at.new.err in
    let counts = sink_counts sink old new in
    let refusal = c.in-Refused.refusal in
    reported_at (sink.taken old) (sink.taken new) counts refusal.line c.text.result.now (text_of refusal.kind)
    (message_of c.args.outcome.now) c.put_message_at.ensures c.text.ensures (ap message_of c.in-Refused.is)

pub returns-in-NoScript : goal.returns-in-NoScript
returns-in-NoScript g c =
    let sink = g.T.Sink in
    let old = c.args.err.now in
    let new = c.put_message_at-in-NoScript.new.err in
    let counts = sink_counts sink old new in
    reported_at (sink.taken old) (sink.taken new) counts 0 c.text-in-NoScript.result.now (fault_text NoFile)
    (message_of c.args.outcome.now) c.put_message_at-in-NoScript.ensures c.text-in-NoScript.ensures (ap message_of c.in-NoScript.is)

pub returns-in-Unreadable : goal.returns-in-Unreadable
returns-in-Unreadable g c =
    let sink = g.T.Sink in
    let old = c.args.err.now in
    let new = c.put_message_at-in-Unreadable.new.err in
    let counts = sink_counts sink old new in
    reported_at (sink.taken old) (sink.taken new) counts 0 (codes "read failed") (codes "read failed")
    (message_of c.args.outcome.now) c.put_message_at-in-Unreadable.ensures refl (ap message_of c.in-Unreadable.is)
