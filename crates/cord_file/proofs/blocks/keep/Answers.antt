use Rattle.std.proofs.Common.{nat_eq}
use Rattle.cord_file.proofs.KeptBlocks.{there_after_put}
use Rattle.cord_file.proofs.blocks.keep.Goals as goal

pub returns : goal.returns
returns c = there_after_put nat_eq c.push.result c.args.cache.now c.push.new.self _ (c.args.key, c.args.block)
    c.push.ensures.entries c.push.ensures.err
