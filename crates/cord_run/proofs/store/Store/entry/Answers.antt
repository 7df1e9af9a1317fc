use Rattle.cord_run.proofs.Entries.{first_there}
use Rattle.cord_run.proofs.store.Store.entry.Goals as goal

pub returns : goal.returns
returns c = first_there c.args.name.now c.index.result.now c.args.self.now.entries.items c.in_ok-place.place c.in_ok-place.ensures.first
    c.index.ensures
