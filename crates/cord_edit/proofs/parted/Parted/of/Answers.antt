use Rattle.std.proofs.Common.{sym, subst}
use Rattle.cord_core.specs.Cord.{IsCord}
use Rattle.cord_edit.proofs.Halves.{one_cord}
use Rattle.cord_edit.proofs.parted.Parted.of.Goals as goal

pub invariant_of-result : goal.invariant_of-result
invariant_of-result c = one_cord c.in_ok-prefix.prefix c.empty-back.result
    (subst IsCord (sym c.in_ok-prefix.ensures.same) c.in_ok-prefix.ensures.sound) c.empty-back.ensures
