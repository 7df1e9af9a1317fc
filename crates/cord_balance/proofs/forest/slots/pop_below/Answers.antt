use Rattle.std.proofs.Common.{◌≡◌, ◌-◌, length, arith}
use Rattle.std.specs.Prelude.{Some, slice_get}
use Rattle.cord_balance.proofs.ForestLemmas.{IsForest-init, IsForest-last, IsForest-falls, AllFrom-by_last}
use Rattle.cord_balance.proofs.forest.slots.pop_below.Goals as goal

pub returns-then-below-slot-clause-none : goal.returns-then-below-slot-clause-none
returns-then-below-slot-clause-none c =
    let e : Some c.in_ok-slot.field-0.now ≡ slice_get c.args.forest.now.items (length c.args.forest.now.items - 1) =
    rw (← c.deref.ensures.value) c.in_ok-slot.ensures.value in
    AllFrom-by_last c.args.below c.args.forest.now.items c.in_ok-slot.field-0.now e c.requires (omega arith)

pub returns-clause-piece : goal.returns-clause-piece
returns-clause-piece c = IsForest-last c.pop.new.self.items c.in_ok-piece.piece (rw (← c.in_ok-piece.ensures.items) c.requires)

pub returns-clause-falls : goal.returns-clause-falls
returns-clause-falls c = IsForest-falls c.pop.new.self.items c.in_ok-piece.piece (rw (← c.in_ok-piece.ensures.items) c.requires)

pub returns-clause-rest : goal.returns-clause-rest
returns-clause-rest c = IsForest-init c.pop.new.self.items c.in_ok-piece.piece (rw (← c.in_ok-piece.ensures.items) c.requires)
