use Rattle.cord_run.proofs.Common.{refl}
use Rattle.cord_run.proofs.Entries.{grew_first, grew_to}
use Rattle.cord_run.proofs.store.appends.append_to.Goals as goal

pub returns-in-Some : goal.returns-in-Some
returns-in-Some c = grew_to c.args.bytes.now c.args.extensible.now _ c.append.new.grown refl c.in-Some.grown c.in-Some.is c.append.result
    c.append.ensures

pub returns-in_ok-begun-in-None : goal.returns-in_ok-begun-in-None
returns-in_ok-begun-in-None c = grew_first c.args.bytes.now c.args.extensible.now _ c.in_ok-begun-in-None.begun refl c.in-None.is
    c.in_ok-begun-in-None.ensures
