use Rattle.std.specs.Prelude.{◌≡◌, ◌+◌}
use Rattle.cord_plan.proofs.Common.{map, drop, stay, expr_view, members_of, members_view, shared_view}
use Rattle.cord_plan.specs.Exprs.{names_of}
use Rattle.cord_plan.proofs.MemberTexts.{weight, weights}
use Rattle.cord_plan.proofs.planner.unchanged.+stays_far.Given as goal

abbrev pub decreases-stays_far : goal.decreases-stays_far
decreases-stays_far l = weight (expr_view l.expression.now)

abbrev pub decreases-members_stay_far : goal.decreases-members_stay_far
decreases-members_stay_far l = weights (members_view l.members.now) + 1

abbrev pub decreases-all_stay_far : goal.decreases-all_stay_far
decreases-all_stay_far l = weights (members_of (map shared_view l.members.now))

abbrev pub invariant-all_stay_far-loop-member : goal.invariant-all_stay_far-loop-member
invariant-all_stay_far-loop-member l = stay l.line.statements.now l.from l.line.place (names_of (members_of (map shared_view l.members)))
    ≡ stay l.line.statements.now l.from l.line.place (names_of (members_of (map shared_view (drop l.member-index l.members))))
