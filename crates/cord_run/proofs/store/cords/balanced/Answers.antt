use Rattle.cord_run.proofs.Common.{ap, sym, cord_in}
use Rattle.cord_run.proofs.Literals.{same_as_name}
use Rattle.cord_run.proofs.store.cords.balanced.Goals as goal

pub returns-in-Ok : goal.returns-in-Ok
returns-in-Ok c =
    record {
      made = same_as_name c.args.store.now.entries.items c.args.name.now c.in-Some.cord.now c.in-Ok.balanced (sym (ap cord_in c.in-Some.ensures))
          c.in-Ok.ensures.over c.in-Ok.ensures.sound;
    }
