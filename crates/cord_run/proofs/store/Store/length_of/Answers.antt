use Rattle.cord_run.proofs.Common.{None, sym, ap, ◌∙◌, Whole, content_length}
use Rattle.cord_run.proofs.Entries.{absent_none}
use Rattle.cord_run.proofs.store.Store.length_of.Goals as goal

pub returns-in-None : goal.returns-in-None
returns-in-None c = sym
    (ap content_length (absent_none (λ entry. entry.content) (Whole None) c.args.self.now.entries.items c.args.name.now c.in-None.ensures))

pub returns-in-Some : goal.returns-in-Some
returns-in-Some c = c.len.ensures ∙ ap content_length (sym c.in-Some.ensures.content)
