use Rattle.cord_file.proofs.KeptBlocks.{under_key}
use Rattle.cord_file.proofs.blocks.copy_newest.Goals as goal

pub returns-in-Some : goal.returns-in-Some
returns-in-Some c = λ is.
    let kept = c.in-Some.kept.now in
    let at = c.in-Some.ensures in
    let copied = c.copy_of.ensures is in
    (at.0, kept.1, under_key c.args.cache.now.entries (at.0, kept) c.args.key at.1 copied.0, copied.1)
