use Rattle.cord_run.proofs.Common.{None, sym, cells_in}
use Rattle.cord_run.proofs.Entries.{absent_none, extensible_none}
use Rattle.cord_run.proofs.store.Store.take_extensible.Goals as goal

pub returns-in-None-clause-taken : goal.returns-in-None-clause-taken
returns-in-None-clause-taken c =
    sym (absent_none (λ entry. cells_in entry.extensible) None c.args.self.now.entries.items c.args.name.now c.in-None.ensures)

pub returns-in-None-clause-left : goal.returns-in-None-clause-left
returns-in-None-clause-left c = extensible_none c.args.name.now c.args.self.now.entries.items
    (absent_none (λ entry. cells_in entry.extensible) None c.args.self.now.entries.items c.args.name.now c.in-None.ensures)
