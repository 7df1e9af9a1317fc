use Rattle.cord_run.proofs.Common.{List, Ok, sym, subst, ◌∙◌, Appends, Entry, Grew, HasSlot, cells_or_none, extensible_in}
use Rattle.cord_run.proofs.Entries.{come_back, grew_after}
use Rattle.cord_run.proofs.store.Store.append.Goals as goal

pub returns : goal.returns
returns c =
    let old = c.args.self.now.entries.items in
    let name = c.args.name.now in
    let more = c.args.bytes.now in
    let middle = c.deref_mut.result.now in
    let slot = subst (λ (es : List Entry). HasSlot name old es (Ok c.in_ok-place.place)) (sym c.deref_mut.ensures.value) c.in_ok-place.ensures in
    subst (λ (es : List Entry). Appends (cells_or_none (extensible_in old name)) more (λ _. Grew name more old es) c.append_at.result)
    (sym (come_back _ c.append_at.new.entries _ (c.append_at.auto.entries ∙ c.deref_mut.ensures.len)))
    (grew_after name more old middle c.append_at.new.entries slot.same c.append_at.result (c.append_at.ensures.set name slot.here.first))
