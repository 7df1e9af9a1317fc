use Rattle.cord_run.proofs.Common.{[], List, ℕ, length, None, Ok, pos, refl, subst, sym, ◌∙◌, rules, vec_len, Whole, Entry, HasSlot, ◌≡◌, ◌++◌, ◌∷◌}
use Rattle.cord_run.proofs.Entries.{slot_added}
use Rattle.cord_run.proofs.store.slots.new_slot.Goals as goal

pub returns : goal.returns
returns c =
    let name = c.args.name.now in
    let old = c.args.entries.now.items in
    let entry : Entry = record { name = c.in_ok-name.name; content = Whole None; number = pos 0; extensible = None } in
    let pushed : c.push.new.self.items ≡ old ++ entry ∷ [] = search rules in
    let count : vec_len c.args.entries.now ≡ length old = search rules in
    let named : entry.name ≡ name = search rules in
    subst (λ (n : ℕ). HasSlot name old c.push.new.self.items (Ok n)) (sym (c.len-place.ensures ∙ count))
    (subst (λ (es : List Entry). HasSlot name old es (Ok (length old))) (sym pushed)
    (slot_added entry name named refl refl refl old c.requires.absent c.requires.distinct))
