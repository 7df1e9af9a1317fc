use Rattle.std.specs.Prelude.{◌≡◌}
use Rattle.cord_plan.proofs.Common.{map, take, members, expr_of, choice_view, members_view}
use Rattle.cord_plan.proofs.planner.joining.joined.Given as goal

-- the members of the choices so far
abbrev pub invariant-choices : goal.invariant-choices
invariant-choices l = members_view l.members ≡ members (map (λ c. expr_of c) (map choice_view (take l.choice-index l.choices)))
