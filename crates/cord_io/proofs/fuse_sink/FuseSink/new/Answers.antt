use Rattle.std.proofs.Common.{refl}
use Rattle.cord_io.proofs.fuse_sink.FuseSink.new.Goals as goal

pub returns-clause-passes : goal.returns-clause-passes
returns-clause-passes g c = refl
