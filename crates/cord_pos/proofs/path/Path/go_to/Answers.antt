use Rattle.cord_pos.proofs.Common.{arith, length-map, place_of, sym}
use Rattle.cord_pos.proofs.Lemmas.{found, taken}
use Rattle.cord_pos.proofs.path.Path.go_to.Goals as goal

pub descend-requires : goal.descend-requires
descend-requires c = found _ _ _ _ _ _ _ c.requires.on_way c.in-Some.ensures.climb c.in-Some.ensures.found
    (sym (length-map c.climb.new.self.stops.items place_of)) (omega (arith, c.in-Some.ensures.visits, c.requires.counted))

pub returns-clause-taken : goal.returns-clause-taken
returns-clause-taken c = taken _ _ _ _ _ _ _ _ _ _ c.in-Some.ensures.climb c.in-Some.ensures.found c.descend.ensures.places
    (rw (← c.in-Some.ensures.visits) c.descend.ensures.visits) c.descend.ensures.part
