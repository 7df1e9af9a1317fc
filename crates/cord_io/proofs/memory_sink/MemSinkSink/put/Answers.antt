use Rattle.std.proofs.Common.{arith, rules}
use Rattle.std.proofs.lemmas.Grind.{common_steps}
use Rattle.cord_io.proofs.memory_sink.MemSinkSink.put.Goals as goal

pub returns-clause-whole : goal.returns-clause-whole
returns-clause-whole c = search rules

pub returns-clause-taken : goal.returns-clause-taken
returns-clause-taken c = grind (arith, common_steps)
