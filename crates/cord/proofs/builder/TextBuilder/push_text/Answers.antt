use Rattle.std.proofs.Common.{refl, ◌∙◌}
use Rattle.cord.proofs.Growths.{growth_by_text, bytes_by_text}
use Rattle.cord.proofs.builder.TextBuilder.push_text.Goals as goal

pub invariant_of-self-2 : goal.invariant_of-self-2
invariant_of-self-2 c = growth_by_text _ _ _ _ c.self.invariant c.as_cord.ensures.text c.in_ok-append_cord.ensures.over

pub returns-clause-text : goal.returns-clause-text
returns-clause-text c = bytes_by_text _ _ _ _ c.self.invariant c.as_cord.ensures.text c.in_ok-append_cord.ensures.over
    ∙ (rw c.self.view_is refl)
