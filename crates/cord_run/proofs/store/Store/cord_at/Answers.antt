use Rattle.cord_run.proofs.Entries.{cord_there, cord_whole}
use Rattle.cord_run.proofs.store.Store.cord_at.Goals as goal

pub returns : goal.returns
returns c =
    let entries = c.args.self.now.entries.items in
    record {
      some = cord_there entries c.args.place c.index.result.now c.index.ensures c.cord.result c.cord.ensures;
      whole = cord_whole entries c.args.place c.index.result.now c.index.ensures c.cord.result c.cord.ensures;
    }
