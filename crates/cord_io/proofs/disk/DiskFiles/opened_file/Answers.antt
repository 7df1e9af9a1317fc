use Rattle.cord_io.proofs.OpenedFiles.{given_asked}
use Rattle.cord_io.proofs.disk.DiskFiles.opened_file.Goals as goal

pub invariant_of-self : goal.invariant_of-self
invariant_of-self g c =
    let answers = c.match-room_for.self.answers in
    record {
      given = given_asked c.args.path.now c.open.result answers.machine.trace.reported c.open.new.self.trace.reported answers.opened.items
          answers.trace.reported c.open.ensures answers.given;
    }
