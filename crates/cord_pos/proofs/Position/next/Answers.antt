use Rattle.cord_pos.proofs.Common.{arith, sym, text_len, ◌+◌, ◌<◌}
use Rattle.cord_pos.proofs.Lemmas.{bound_moved, index_inside, move_one_part, next_move, next_no_earlier, next_still, position_cord}
use Rattle.cord_pos.proofs.Position.next.Goals as goal

pub invariant_of-self : goal.invariant_of-self
invariant_of-self c =
    let on = rw c.in-Some.is at c.self.invariant in
    (next_still _ _ _ on c.if-index-spot.true).position

pub returns-then-index-spot-clause-index : goal.returns-then-index-spot-clause-index
returns-then-index-spot-clause-index c =
    let on = rw c.in-Some.is at c.self.invariant in
    rw (← c.self.view_is, c.in-Some.is) (sym (index_inside c.self.inside.tree.cord.now _ (next_still _ _ _ on c.if-index-spot.true).inside))

pub returns-then-index-spot-clause-visits : goal.returns-then-index-spot-clause-visits
returns-then-index-spot-clause-visits c =
    let on = rw c.in-Some.is at c.self.invariant in
    let still = next_still _ _ _ on c.if-index-spot.true in
    rw (← c.self.view_is, c.in-Some.is, next_move c.self.inside.tree.cord.now c.in-Some.spot.index (position_cord _ _ _ on) still.inside)
    still.visits

pub returns-then-index-len-clause-visits : goal.returns-then-index-len-clause-visits
returns-then-index-len-clause-visits c =
    let on = rw c.in-Some.is at c.self.invariant in
    let cord = position_cord _ _ _ on in
    let v = rw (← c.self.view_is, c.in-Some.is) at c.go_to.ensures.visits in
    let k : c.in-Some.spot.index + 1 < text_len c.self.inside.tree.cord.now = omega (arith, c.len.ensures, c.if-index-len.true) in
    rw (← c.self.view_is, c.in-Some.is, next_move c.self.inside.tree.cord.now c.in-Some.spot.index cord k) v

pub returns-then-index-len-clause-bound : goal.returns-then-index-len-clause-bound
returns-then-index-len-clause-bound c =
    let on = rw c.in-Some.is at c.self.invariant in
    let visits = rw (← c.self.view_is, c.in-Some.is) at c.go_to.ensures.visits in
    rw (← c.self.view_is) (bound_moved c.self.inside.tree.cord.now c.in-Some.spot.index (c.in-Some.spot.index + 1) _ _ (position_cord _ _ _ on) visits)

pub returns-then-index-len-clause-one_part : goal.returns-then-index-len-clause-one_part
returns-then-index-len-clause-one_part c =
    let v = rw (← c.self.view_is, c.in-Some.is) at c.go_to.ensures.visits in
    rw (← c.self.view_is, c.in-Some.is, c.go_to.ensures.index) (λ h. omega (arith, v, move_one_part _ _ _ h, c.self.invariant.counted))

pub returns-then-index-spot-clause-order : goal.returns-then-index-spot-clause-order
returns-then-index-spot-clause-order c =
    let on = rw c.in-Some.is at c.self.invariant in
    rw (← c.self.view_is, c.in-Some.is) (next_no_earlier _ _ (position_cord _ _ _ on) (next_still _ _ _ on c.if-index-spot.true).inside)

pub returns-then-index-len-clause-order : goal.returns-then-index-len-clause-order
returns-then-index-len-clause-order c =
    let on = rw c.in-Some.is at c.self.invariant in
    let k : c.in-Some.spot.index + 1 < text_len c.self.inside.tree.cord.now = omega (arith, c.len.ensures, c.if-index-len.true) in
    rw (← c.self.view_is, c.in-Some.is, c.go_to.ensures.index) (next_no_earlier _ _ (position_cord _ _ _ on) k)
