use Rattle.cord_run.proofs.Common.{drop, expr_view, members_view, members_seen, ◌+◌}
use Rattle.cord_run.proofs.ShortTexts.{weight, weights}
use Rattle.cord_run.proofs.MemberRanges.{SoFar}
use Rattle.cord_run.proofs.expressions.ranges.+add_range.Given as goal

abbrev pub decreases-add_range : goal.decreases-add_range
decreases-add_range l = weight (expr_view l.expression.now)

abbrev pub decreases-add_members : goal.decreases-add_members
decreases-add_members l = weights (members_view l.members.now) + 1

abbrev pub decreases-add_all : goal.decreases-add_all
decreases-add_all l = weights (members_seen l.members.now)

abbrev pub invariant-add_all-loop-member : goal.invariant-add_all-loop-member
invariant-add_all-loop-member l = SoFar l.store.entries.items (members_seen l.members) l.fn.wanted l.initial.pieces.items
    (members_seen (drop l.member-index l.members)) l.left l.pieces.items
