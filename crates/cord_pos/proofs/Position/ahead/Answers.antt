use Rattle.cord_pos.proofs.Common.{arith}
use Rattle.cord_pos.proofs.Lemmas.{spot_ahead, spot_part, spot_rest_ahead}
use Rattle.cord_pos.proofs.Position.ahead.Goals as goal

pub overflow_sub-from : goal.overflow_sub-from
overflow_sub-from c = (spot_part _ _ _ (rw c.in-Some.is at c.self.invariant)).from

pub span-requires : goal.span-requires
span-requires c =
    let on = spot_part _ _ _ (rw c.in-Some.is at c.self.invariant) in
    record { part = on.part; sound = on.within.sound; some = rw c.len.ensures on.inside; inside = omega (arith, c.len.ensures) }

pub returns-clause-span : goal.returns-clause-span
returns-clause-span c =
    rw (← c.self.view_is, c.in-Some.is) (spot_ahead _ _ _ (rw c.in-Some.is at c.self.invariant) _ c.span.ensures)

pub returns-clause-rest : goal.returns-clause-rest
returns-clause-rest c =
    rw (← c.self.view_is, c.in-Some.is) (spot_rest_ahead _ _ _ (rw c.in-Some.is at c.self.invariant) _
    (rw c.len.ensures at c.span.ensures.len))
