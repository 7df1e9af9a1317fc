use Rattle.std.specs.Prelude.{◌≡◌}
use Rattle.cord_plan.proofs.Common.{map, take, append, members_of, members_view, shared_view}
use Rattle.cord_plan.proofs.expressions.Members.with_each.Given as goal

-- the first ones, and the others so far
abbrev pub invariant-others : goal.invariant-others
invariant-others l = members_view l.members
    ≡ append (members_view l.fn.self) (members_of (map shared_view (take l.other-index l.others)))
