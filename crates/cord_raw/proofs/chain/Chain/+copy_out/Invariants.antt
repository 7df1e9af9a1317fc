use Rattle.std.proofs.Common.{◌+◌, length}
use Rattle.cord_raw.proofs.chain.Chain.+copy_out.Given as goal

abbrev pub decreases-copy_out : goal.decreases-copy_out
decreases-copy_out l = l.start + length l.out.now
