use Rattle.cord_run.proofs.Common.{rules}
use Rattle.cord_run.proofs.Entries.{key_noted}
use Rattle.cord_run.proofs.store.slots.note_key.Goals as goal

pub returns-then-key-lt-FIRST_HASH : goal.returns-then-key-lt-FIRST_HASH
returns-then-key-lt-FIRST_HASH c = λ entries are at.
    key_noted c.args.keys.now entries c.args.bytes.now c.args.slot c.args.key (λ k. (c.type_inv.bytes k).fits) c.requires (search rules)
    (search rules) at are
