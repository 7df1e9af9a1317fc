use Rattle.std.specs.Prelude.{◌≡◌, ◌||◌}
use Rattle.cord_plan.proofs.Common.{false, or-false, rules}
use Rattle.cord_plan.proofs.planner.lines.of_composition.Goals as goal

-- a must-fail edit breaks it
pub returns : goal.returns
returns c = let same : (c.args.dead || false) ≡ c.args.dead = or-false c.args.dead in search rules
