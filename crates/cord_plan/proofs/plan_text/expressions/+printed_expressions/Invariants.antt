use Rattle.std.specs.Prelude.{◌≡◌, ◌+◌}
use Rattle.cord_plan.proofs.Common.{take, map, Ok, WriteFault, Writes, expr_view, members_of, members_view, shared_view}
use Rattle.cord_plan.proofs.MemberTexts.{weight, weights, members_text}
use Rattle.cord_plan.proofs.Spacing.{blank_at}
use Rattle.cord_plan.proofs.plan_text.expressions.+printed_expressions.Given as goal

abbrev pub decreases-put_expression : goal.decreases-put_expression
decreases-put_expression g l = weight (expr_view l.expression.now)

abbrev pub decreases-put_members : goal.decreases-put_members
decreases-put_members g l = weights (members_view l.members.now) + 1

abbrev pub decreases-put_listed : goal.decreases-put_listed
decreases-put_listed g l = weights (members_of (map shared_view l.members.now))

abbrev pub invariant-put_listed-loop-member : goal.invariant-put_listed-loop-member
invariant-put_listed-loop-member g l = record {
  taken : Writes {E = WriteFault} g.W.Sink (members_text l.fn.first (take l.member-index l.members)) l.initial.sink l.sink (Ok tt);
  blank : l.blank ≡ blank_at l.fn.first l.member-index;
}
