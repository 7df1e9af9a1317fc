use Rattle.cord_run.proofs.Common.{pos, sym, rules}
use Rattle.cord_run.proofs.Entries.{absent_none}
use Rattle.cord_run.proofs.Numbers.{handed}
use Rattle.cord_run.proofs.store.Store.number_of.Goals as goal

pub returns-in-None : goal.returns-in-None
returns-in-None c = sym (absent_none (λ entry. entry.number) (pos 0) c.args.self.now.entries.items c.args.name.now c.in-None.ensures)

pub returns-in-Some : goal.returns-in-Some
returns-in-Some c = handed c.in-Some.entry.now.number (search rules) (sym c.in-Some.ensures.number)
