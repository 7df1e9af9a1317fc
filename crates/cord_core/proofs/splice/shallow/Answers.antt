use Rattle.std.proofs.Common.{ap}
use Rattle.cord_node.proofs.PartsFromLemmas.{PartsFrom_same}
use Rattle.cord_core.specs.Cord.{parts_of}
use Rattle.cord_core.proofs.splice.shallow.Goals as goal

pub returns-in_ok-same-clause-parts_from : goal.returns-in_ok-same-clause-parts_from
returns-in_ok-same-clause-parts_from c = PartsFrom_same _ _ (ap parts_of c.in_ok-same.ensures.same)
