use Rattle.cord_search.proofs.Common.{IfSome, IsStop, MAX_DEPTH, Some, Stop, arith, depth_of, length, refl, rules, ◌+◌, ◌≡◌, ◌≤◌}
use Rattle.cord_search.proofs.Lemmas.{all_push, stop_kept}
use Rattle.cord_pos.proofs.Counts.{depth_limit}
use Rattle.cord_search.proofs.shared_parts.Way.climb.Goals as goal

pub returns-clause-way : goal.returns-clause-way
returns-clause-way c =
    let items = c.loop-last.self.stops.items in
    let spot = c.of-spot.result in
    let root : Stop = record { node = spot.node; start = 0 } in
    let none : length items ≡ 0 = search rules in
    let depth : length items + depth_of spot.node.now ≤ MAX_DEPTH =
    omega (arith, none, depth_limit spot.node.now c.of-spot.ensures.spot.spot.0) in
    rw c.push.ensures.items (all_push (λ k o. IfSome o (IsStop c.args.cord.now k)) items (Some root) c.loop-last.invariant
    (stop_kept c.of-spot.ensures.spot (length items) root refl (omega (arith, c.of-spot.ensures.place)) depth))
