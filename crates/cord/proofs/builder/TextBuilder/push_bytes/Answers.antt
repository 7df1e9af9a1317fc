use Rattle.std.proofs.Common.{refl, ◌∙◌}
use Rattle.cord.proofs.Growths.{growth_by, bytes_by}
use Rattle.cord.proofs.builder.TextBuilder.push_bytes.Goals as goal

pub invariant_of-self-2 : goal.invariant_of-self-2
invariant_of-self-2 c = growth_by _ _ _ c.self.invariant c.in_ok-append_bytes.ensures.over

pub returns-clause-text : goal.returns-clause-text
returns-clause-text c = bytes_by _ _ _ c.self.invariant c.in_ok-append_bytes.ensures.over ∙ (rw c.self.view_is refl)
