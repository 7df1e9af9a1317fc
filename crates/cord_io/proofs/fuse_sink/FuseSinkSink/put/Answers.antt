use Rattle.std.proofs.Common.{◌≡◌, ◌++◌, take, arith}
use Rattle.std.proofs.lemmas.Grind.{common_steps}
use Rattle.cord_io.specs.FusedSink.{sink_inside}
use Rattle.cord_io.proofs.fuse_sink.FuseSinkSink.put.Goals as goal

pub returns-in-Ok-clause-taken : goal.returns-in-Ok-clause-taken
returns-in-Ok-clause-taken g c =
    let all : g.S.Sink.taken c.put.new.self ≡ g.S.Sink.taken (sink_inside c.args.self.now) ++ take c.in-Ok.count c.args.bytes.now =
    grind (arith, common_steps) in
    all
