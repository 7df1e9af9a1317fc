use Rattle.std.proofs.Common.{rules}
use Rattle.cord_file.proofs.KeptBlocks.{first_there}
use Rattle.cord_file.proofs.blocks.newest.Goals as goal

pub returns-in-Some : goal.returns-in-Some
returns-in-Some c =
    let slot = c.in-Some.field-0-0.now in
    let kept = c.in-Some.kept.now in
    (slot, first_there c.args.cache.now.entries (slot, kept) (search rules))
