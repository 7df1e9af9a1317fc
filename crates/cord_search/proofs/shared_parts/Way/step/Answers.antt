use Rattle.cord_search.proofs.Common.{IfSome, IsSpotOf, IsStop, MAX_DEPTH, Some, arith, depth_of, length, refl, ◌+◌, ◌-◌, ◌≤◌}
use Rattle.cord_search.proofs.Lemmas.{all_push, side_at, stop_kept}
use Rattle.cord_search.proofs.shared_parts.Way.step.Goals as goal

pub returns-clause-way : goal.returns-clause-way
returns-clause-way c = λ d spot way.
    let items = c.args.self.now.stops.items in
    let side = c.in_ok-side.side in
    let held = c.in_ok-side.ensures.side in
    let here : IsSpotOf d c.args.at side = side_at spot held.within held.spot in
    let depth : length items + depth_of side.node.now ≤ MAX_DEPTH = omega (arith, c.requires.room, held.lower) in
    rw c.push.ensures.items (all_push (λ k o. IfSome o (IsStop d k)) items (Some (record { node = side.node; start = c.args.at - side.place })) way
    (stop_kept here (length items) (record { node = side.node; start = c.args.at - side.place }) refl refl depth))
