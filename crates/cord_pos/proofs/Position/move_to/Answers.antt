use Rattle.cord_pos.proofs.Common.{sym}
use Rattle.cord_pos.proofs.Lemmas.{bound_moved, index_inside, moved_inside, position_cord, still}
use Rattle.cord_pos.proofs.Position.move_to.Goals as goal

pub invariant_of-self : goal.invariant_of-self
invariant_of-self c =
    let on = rw c.in-Some.is at c.self.invariant in
    (still _ _ _ c.args.index on c.if-spot-index.true c.if-index-spot.true).position

pub returns-then-index-spot-clause-index : goal.returns-then-index-spot-clause-index
returns-then-index-spot-clause-index c =
    let on = rw c.in-Some.is at c.self.invariant in
    rw (← c.self.view_is, c.in-Some.is) (sym (index_inside c.self.inside.tree.cord.now _ (still _ _ _ c.args.index on c.if-spot-index.true c.if-index-spot.true).inside))

pub returns-then-index-spot-clause-visits : goal.returns-then-index-spot-clause-visits
returns-then-index-spot-clause-visits c =
    let on = rw c.in-Some.is at c.self.invariant in
    let stays = still _ _ _ c.args.index on c.if-spot-index.true c.if-index-spot.true in
    rw (← c.self.view_is, c.in-Some.is, moved_inside c.self.inside.tree.cord.now c.in-Some.spot.index c.args.index stays.inside) stays.visits

pub returns-then-index-len-clause-bound : goal.returns-then-index-len-clause-bound
returns-then-index-len-clause-bound c =
    let on = rw c.in-Some.is at c.self.invariant in
    let visits = rw (← c.self.view_is, c.in-Some.is) at c.go_to.ensures.visits in
    rw (← c.self.view_is) (bound_moved c.self.inside.tree.cord.now c.in-Some.spot.index c.args.index _ _ (position_cord _ _ _ on) visits)
