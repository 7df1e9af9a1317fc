use Rattle.cord_search.proofs.Common.{arith}
use Rattle.cord_pos.proofs.Steps.{is_side}
use Rattle.cord_search.proofs.shared_parts.Spot.side.Goals as goal

pub returns-clause-side : goal.returns-clause-side
returns-clause-side c =
    let side = is_side _ _ _ _ c.requires.0 c.requires.1 c.in_ok-side.ensures.side in
    record {
      spot = (side.sound, omega (arith, side.inside, c.in_ok-side.ensures.place));
      within = rw c.in_ok-side.ensures.place side.within;
      shorter = side.shorter;
      lower = omega (arith, side.depth);
    }
