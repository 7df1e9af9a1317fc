use Rattle.cord_search.proofs.Lemmas.{side_at}
use Rattle.cord_search.proofs.shared_parts.Spot.of_part.Goals as goal

pub loop-side-preserved : goal.loop-side-preserved
loop-side-preserved c = side_at c.loop-side.invariant c.in-Some.ensures.side.within c.in-Some.ensures.side.spot
