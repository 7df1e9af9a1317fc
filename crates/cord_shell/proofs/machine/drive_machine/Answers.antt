use Rattle.std.proofs.Common.{ℕ, List, ap, map}
use Rattle.std.specs.String.{string_bytes}
use Rattle.cord_io.specs.Device.{Finishes, FileSystem, failed_calls}
use Rattle.cord_io.specs.DiskReported.{reported_by}
use Rattle.cord_io.specs.SinkCounts.{SinkCounts}
use Rattle.cord_io.specs.Reported.{Agrees}
use Rattle.cord_io.specs.declared.standard.StdSink.{StdSink}
use Rattle.cord_meaning.specs.Ends.{Counts}
use Rattle.cord_shell.specs.Headline.{Answer, Stream}
use Rattle.cord_shell.specs.Outcomes.{message_of}
use Rattle.cord_shell.specs.Drove.{Drove}
use Rattle.cord_shell.proofs.Headline.{comes_of_new, reports_of_new}
use Rattle.cord_shell.proofs.machine.drive_machine.Given.{Over}
use Rattle.cord_shell.proofs.machine.drive_machine.Goals as goal

-- what a stream reported
abbrev reported : {W : Type 0} → StdSink W → Stream
reported s = record {
  taken = s.writer.tally.bytes;
  failures = failed_calls s.failures.puts (record { ended = s.writer.tally.ends.ended; failed = s.failures.finishes });
  failed_puts = s.failures.puts;
  ends = s.writer.tally.ends.ended;
}

module _ (g : Over) (c : goal.After-drive-status g) where
  abbrev words : List (List ℕ)
  words = map string_bytes c.args.words.now

  abbrev consistent : FileSystem → Type 0
  consistent file_system = Agrees file_system (reported_by c.drive-status.result.1)

  abbrev answer : Answer
  answer = record {
    status = c.drive-status.result.0;
    files_failed = c.drive-status.result.1.failures;
    out = reported c.drive-status.new.out;
    err = reported c.drive-status.new.err;
  }

  drove : Drove consistent words answer
  drove =
      let drives = c.drive-status.ensures.drives in
      let out = c.new-out.ensures in
      let err = c.new-err.ensures in
      let counts : Counts = record {
        files_before = c.new-files.result.failures;
        files_after = answer.files_failed;
        sink_before = (reported c.new-out.result).failures;
        sink_after = answer.out.failures;
        puts_before = c.new-out.result.failures.puts;
        puts_after = answer.out.failed_puts;
        finished_before = c.new-out.result.writer.tally.ends.ended;
        finished_after = answer.out.ends;
      } in
      let said : SinkCounts = record {
        failed_before = (reported c.new-err.result).failures;
        failed_after = answer.err.failures;
        ended_before = c.new-err.result.writer.tally.ends.ended;
        ended_after = answer.err.ends;
      } in
      record {
        outcome = drives.0;
        comes = comes_of_new consistent words drives.0 answer.out.taken c.new-out.result.writer.tally.bytes counts c.new-files.ensures.count
            out.count out.failed (ap (λ (f : Finishes). f.ended) out.finished) out.taken drives.1;
        status = drives.2;
        reports = reports_of_new (message_of drives.0) answer.err.taken c.new-err.result.writer.tally.bytes said err.count
            (ap (λ (f : Finishes). f.ended) err.finished) err.taken drives.3;
      }

pub returns : goal.returns
returns g c = drove g c
