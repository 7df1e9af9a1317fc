use Rattle.std.proofs.Common.{rules}
use Rattle.cord_raw.proofs.buffer.RawBuf.new.Goals as goal

pub returns : goal.returns
returns c = search rules
