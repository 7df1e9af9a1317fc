use Rattle.cord.proofs.Growths.{growth_by}
use Rattle.cord.proofs.builder.TextBuilder.push.Goals as goal

pub invariant_of-self-2 : goal.invariant_of-self-2
invariant_of-self-2 c = growth_by _ _ _ c.self.invariant c.in_ok-append.ensures.over
