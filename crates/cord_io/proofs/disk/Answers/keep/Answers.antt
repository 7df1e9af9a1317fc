use Rattle.std.proofs.Common.{◌≡◌, ◌∷◌, ◌++◌, [], rules}
use Rattle.cord_io.proofs.OpenedFiles.{given_beside, given_len}
use Rattle.cord_io.proofs.disk.Answers.keep.Goals as goal

-- what is reported of the file is what the machine gave
pub invariant_of-self-2 : goal.invariant_of-self-2
invariant_of-self-2 g c =
    let old = c.args.self.now in
    let files = c.push.new.self.items in
    let pushed : files ≡ old.opened.items ++ c.args.file ∷ [] = search rules in
    let beside = given_beside old.machine.trace.reported old.opened.items files c.args.file old.trace.reported pushed old.given in
    record {
      given = given_len old.machine.trace.reported old.opened.items files c.args.file c.args.path.now old.trace.reported
          c.then-self.result.reported pushed c.requires c.then-self.ensures beside;
    }
