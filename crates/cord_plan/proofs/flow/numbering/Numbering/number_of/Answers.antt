use Rattle.cord_plan.proofs.Common.{names_of}
use Rattle.cord_plan.proofs.Numbers.{place_reported}
use Rattle.cord_plan.proofs.flow.numbering.Numbering.number_of.Goals as goal

pub returns : goal.returns
returns c = place_reported (names_of c.args.self.now) c.args.self.now.distinct c.args.name.now c.place_in.result
    (rw c.deref.ensures.value at c.place_in.ensures.some) (rw c.deref.ensures.value at c.place_in.ensures.none)
