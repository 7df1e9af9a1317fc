use Rattle.cord_run.proofs.Common.{refl}
use Rattle.cord_run.proofs.Entries.{grew_set}
use Rattle.cord_run.proofs.store.appends.append_at.Goals as goal

pub returns : goal.returns
returns c = grew_set c.args.entries.now c.args.place c.index-entries-place.result _ refl c.args.bytes.now c.append_to.result refl refl
    c.append_to.ensures
