use Rattle.std.specs.Prelude.{◌≡◌, ◌+◌}
use Rattle.cord_plan.proofs.Common.{map, drop, parts_of, room_left, expr_view, members_of, members_view, shared_view}
use Rattle.cord_plan.proofs.MemberTexts.{weight, weights}
use Rattle.cord_plan.proofs.planner.parts.+room_left.Given as goal

abbrev pub decreases-room_left : goal.decreases-room_left
decreases-room_left l = weight (expr_view l.expression.now)

abbrev pub decreases-room_left_members : goal.decreases-room_left_members
decreases-room_left_members l = weights (members_view l.members.now) + 1

abbrev pub decreases-room_left_all : goal.decreases-room_left_all
decreases-room_left_all l = weights (members_of (map shared_view l.members.now))

abbrev pub invariant-room_left_all-loop-member : goal.invariant-room_left_all-loop-member
invariant-room_left_all-loop-member l = room_left (parts_of (members_of (map shared_view l.members))) l.room
    ≡ room_left (parts_of (members_of (map shared_view (drop l.member-index l.members)))) l.rest
