use Rattle.std.proofs.Common.{nat_eq, rules}
use Rattle.cord_file.proofs.KeptBlocks.{under_key, there_before, there_found}
use Rattle.cord_file.proofs.blocks.copy_slot.Goals as goal

pub returns-in-Some-clause-kept : goal.returns-in-Some-clause-kept
returns-in-Some-clause-kept c = there_before nat_eq c.args.cache.now c.get.follows.lender-at-none c.args.slot
    c.get.follows.holds-at-none

pub returns-in-None-clause-kept : goal.returns-in-None-clause-kept
returns-in-None-clause-kept c = there_before nat_eq c.args.cache.now c.get.follows.lender-at-none c.args.slot
    c.get.follows.holds-at-none

pub returns-in-Some-clause-copied : goal.returns-in-Some-clause-copied
returns-in-Some-clause-copied c = λ is.
    let entries = c.args.cache.now.entries in
    let kept = c.in-Some.kept.now in
    let at = there_found nat_eq entries c.args.slot kept (search rules) in
    let copied = c.copy_of.ensures is in
    (at.0, kept.1, under_key entries (at.0, kept) c.args.key at.1 copied.0, copied.1)
