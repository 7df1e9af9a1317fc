use Rattle.cord_run.proofs.Common.{rules}
use Rattle.cord_run.proofs.Entries.{named_slot}
use Rattle.cord_run.proofs.store.slots.keyed.Goals as goal

pub returns-in-Some : goal.returns-in-Some
returns-in-Some c = λ entries distinct are. named_slot entries c.args.bytes.now c.args.slot distinct
    (are.named c.args.bytes.now c.args.slot (λ k. (c.type_inv.bytes k).fits) (search rules) (search rules))
