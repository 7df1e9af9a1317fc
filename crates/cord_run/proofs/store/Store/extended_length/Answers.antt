use Rattle.cord_run.proofs.Common.{None, sym, ap, ◌∙◌, ℕ, List, Option, Cell, cells_in, cells_or_none, length}
use Rattle.cord_run.proofs.Entries.{absent_none, value_there}
use Rattle.cord_run.proofs.store.Store.extended_length.Goals as goal

abbrev long : Option (List Cell) → ℕ
long cells = length (cells_or_none cells)

pub returns-in-None : goal.returns-in-None
returns-in-None c = sym
    (ap long (absent_none (λ entry. cells_in entry.extensible) None c.args.self.now.entries.items c.args.name.now
    c.in-None.ensures))

pub returns-in-None-extensible : goal.returns-in-None-extensible
returns-in-None-extensible c = ap long (ap cells_in (sym c.in-None-extensible.is)
    ∙ value_there (λ entry. cells_in entry.extensible) None c.args.self.now.entries.items c.args.name.now c.in-Some.place c.index.result.now
    c.in-Some.ensures.first c.index.ensures)

pub returns-in-Some-extensible : goal.returns-in-Some-extensible
returns-in-Some-extensible c = c.len.ensures.value ∙ ap long
    (ap cells_in (sym c.in-Some-extensible.is) ∙ value_there (λ entry. cells_in entry.extensible) None c.args.self.now.entries.items
    c.args.name.now c.in-Some.place c.index.result.now c.in-Some.ensures.first c.index.ensures)
