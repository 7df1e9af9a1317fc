use Rattle.cord_run.proofs.Common.{None, MatchOption, ap, subst, sym, Content, Whole, cord_in, ◌≡◌}
use Rattle.cord_run.proofs.Entries.{absent_none}
use Rattle.cord_run.proofs.store.Store.cord_of.Goals as goal

pub returns-in-None : goal.returns-in-None
returns-in-None c =
    ap cord_in (absent_none (λ entry. entry.content) (Whole None) c.args.self.now.entries.items c.args.name.now c.in-None.ensures)

pub returns-in-Some : goal.returns-in-Some
returns-in-Some c = subst (λ (held : Content). MatchOption c.cord.result (cord_in held ≡ None) (λ cord. held ≡ Whole cord.now))
    (sym c.in-Some.ensures.content) c.cord.ensures
