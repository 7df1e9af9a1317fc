use Rattle.cord_pos.proofs.Common.{arith, rules, ◌-◌}
use Rattle.cord_pos.proofs.Lemmas.{bound_moved, move_one_part, position_cord, prev_move, prev_still}
use Rattle.cord_pos.proofs.Position.prev.Goals as goal

pub returns-in_default : goal.returns-in_default
returns-in_default c = search rules

pub invariant_of-self : goal.invariant_of-self
invariant_of-self c =
    let on = rw c.in-Some.is at c.self.invariant in
    (prev_still _ _ _ on c.if-spot.true).position

pub returns-then-spot-clause-visits : goal.returns-then-spot-clause-visits
returns-then-spot-clause-visits c =
    let on = rw c.in-Some.is at c.self.invariant in
    rw (← c.self.view_is, c.in-Some.is, prev_move c.self.inside.tree.cord.now c.in-Some.spot.index (omega (arith, c.if-spot.true)))
    (prev_still _ _ _ on c.if-spot.true).visits

pub returns-then-spot-gt0-clause-bound : goal.returns-then-spot-gt0-clause-bound
returns-then-spot-gt0-clause-bound c =
    let on = rw c.in-Some.is at c.self.invariant in
    let visits = rw (← c.self.view_is, c.in-Some.is) at c.go_to.ensures.visits in
    rw (← c.self.view_is) (bound_moved c.self.inside.tree.cord.now c.in-Some.spot.index (c.in-Some.spot.index - 1) _ _ (position_cord _ _ _ on) visits)

pub returns-then-spot-gt0-clause-one_part : goal.returns-then-spot-gt0-clause-one_part
returns-then-spot-gt0-clause-one_part c =
    let v = rw (← c.self.view_is, c.in-Some.is) at c.go_to.ensures.visits in
    rw (← c.self.view_is, c.in-Some.is, c.go_to.ensures.index) (λ h. omega (arith, v, move_one_part _ _ _ h, c.self.invariant.counted))
