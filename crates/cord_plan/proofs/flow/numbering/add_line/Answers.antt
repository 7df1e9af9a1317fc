use Rattle.cord_plan.proofs.Common.{List, ℕ, Some, Option, ap, ◌∙◌}
use Rattle.std.specs.Option.{option_map}
use Rattle.cord_plan.proofs.Numbers.{line_added, same_names}
use Rattle.cord_plan.proofs.flow.numbering.add_line.Goals as goal

pub returns-in-None : goal.returns-in-None
returns-in-None c = line_added _ _ _ _ _ _ _ c.in_ok-add_read.ensures (same_names c.add_read.new.names.items)
    (ap (option_map Some) c.in-None.ensures) (c.in_ok-start.ensures ∙ (c.len.ensures ∙ c.args.read.now.ok.0))
    (c.in_ok-end.ensures ∙ (c.len-2.ensures ∙ c.add_read.new.read.ok.0))

pub returns-in_ok-number-in-Some : goal.returns-in_ok-number-in-Some
returns-in_ok-number-in-Some c = line_added _ _ _ _ _ _ _ c.in_ok-add_read.ensures c.in_ok-number-in-Some.ensures.grows
    (ap (λ (o : Option (List ℕ)). Some o) c.in_ok-number-in-Some.ensures.is ∙ ap (option_map Some) c.in-Some.ensures)
    (c.in_ok-start.ensures ∙ (c.len.ensures ∙ c.args.read.now.ok.0))
    (c.in_ok-end.ensures ∙ (c.len-2.ensures ∙ c.add_read.new.read.ok.0))
