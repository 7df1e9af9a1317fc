use Rattle.cord_pos.proofs.Lemmas.{spot_byte, spot_part}
use Rattle.cord_pos.proofs.Position.fetch.Goals as goal

pub overflow_sub-spot : goal.overflow_sub-spot
overflow_sub-spot g c = (spot_part _ _ _ (rw c.in-Some.is at c.self.invariant)).from

pub byte-requires-clause-place : goal.byte-requires-clause-place
byte-requires-clause-place g c =
    let on = spot_part _ _ _ (rw c.in-Some.is at c.self.invariant) in
    record { part = on.part; sound = on.within.sound; inside = on.inside }

pub byte-requires-clause-fits : goal.byte-requires-clause-fits
byte-requires-clause-fits g c =
    let on = spot_part _ _ _ (rw c.in-Some.is at c.self.invariant) in
    on.within.fits (g.S.Source.lengths c.args.src.now) (rw (← c.self.view_is, on.is) at c.requires.fits)

pub returns-clause-byte : goal.returns-clause-byte
returns-clause-byte g c file_system agrees =
    let lengths = g.S.Source.lengths c.args.src.now in
    let reported = g.met.S.Source.lengths_of_table c.args.src.now file_system (c.byte.ensures.source.earlier file_system agrees) in
    rw (← c.self.view_is, c.in-Some.is)
    (spot_byte _ _ _ (rw c.in-Some.is at c.self.invariant) lengths (g.S.Source.table c.args.src.now file_system) _ reported
    (rw (← c.self.view_is) at c.requires.fits) (c.in_ok-byte.ensures.byte file_system agrees))
