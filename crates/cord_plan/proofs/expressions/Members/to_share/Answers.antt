use Rattle.cord_plan.proofs.Common.{ap, ◌∙◌, members_view}
use Rattle.cord_plan.proofs.Sharing.{full_made}
use Rattle.cord_plan.proofs.expressions.Members.to_share.Goals as goal

pub returns-in_ok-new-in-Two : goal.returns-in_ok-new-in-Two
returns-in_ok-new-in-Two c = record { made = full_made c.in_ok-new-in-Two.field-0 ∙ ap members_view c.in_ok-new-in-Two.ensures.ok }
