use Rattle.cord_pos.proofs.Common.{arith}
use Rattle.cord_pos.proofs.Lemmas.{spot_behind, spot_part, spot_rest_behind}
use Rattle.cord_pos.proofs.Position.behind.Goals as goal

pub overflow_sub-to : goal.overflow_sub-to
overflow_sub-to c = (spot_part _ _ _ (rw c.in-Some.is at c.self.invariant)).from

pub span-requires : goal.span-requires
span-requires c =
    let on = spot_part _ _ _ (rw c.in-Some.is at c.self.invariant) in
    record { part = on.part; sound = on.within.sound; some = omega arith; inside = omega (arith, on.inside) }

pub returns-clause-span : goal.returns-clause-span
returns-clause-span c =
    rw (← c.self.view_is, c.in-Some.is) (spot_behind _ _ _ (rw c.in-Some.is at c.self.invariant) _ c.span.ensures)

pub returns-clause-rest : goal.returns-clause-rest
returns-clause-rest c =
    rw (← c.self.view_is, c.in-Some.is) (spot_rest_behind _ _ _ (rw c.in-Some.is at c.self.invariant) _ c.span.ensures.len)
