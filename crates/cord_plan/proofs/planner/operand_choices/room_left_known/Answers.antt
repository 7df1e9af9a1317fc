use Rattle.std.specs.Prelude.{◌≡◌}
use Rattle.cord_plan.proofs.Common.{parts, rules, expr_view}
use Rattle.cord_plan.proofs.planner.operand_choices.room_left_known.Goals as goal

pub returns-in-Some : goal.returns-in-Some
returns-in-Some c =
    let facts = rw c.in-Some.is at c.requires.2 in
    let counted : parts (expr_view c.args.expression.now) ≡ c.in-Some.facts.parts = facts.counted in
    rw counted (search rules)
