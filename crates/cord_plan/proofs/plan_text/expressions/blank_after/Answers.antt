use Rattle.std.specs.Prelude.{◌∷◌, if◌then◌else◌}
use Rattle.cord_plan.proofs.Common.{ℕ, List, [], Bool, ap, sym, ◌∙◌}
use Rattle.cord_plan.proofs.plan_text.expressions.blank_after.Goals as goal

abbrev blank : Bool → List ℕ
blank none = if none then [] else 32 ∷ []

pub returns-then-is_nothing : goal.returns-then-is_nothing
returns-then-is_nothing c = ap blank (sym c.if-is_nothing.true ∙ c.is_nothing.ensures)

pub returns-else-is_nothing : goal.returns-else-is_nothing
returns-else-is_nothing c = ap blank (sym c.if-is_nothing.false ∙ c.is_nothing.ensures)
