use Rattle.cord_plan.proofs.Common.{members_view}
use Rattle.cord_plan.proofs.MemberTexts.{weights}
use Rattle.cord_plan.proofs.expressions.Members.+with_all.Given as goal

abbrev pub decreases-with_all : goal.decreases-with_all
decreases-with_all l = weights (members_view l.others.now)
