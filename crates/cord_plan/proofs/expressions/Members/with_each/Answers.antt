use Rattle.cord_plan.proofs.Common.{sym, ap, ◌∙◌, Exprs, append, member, nothing, members_view, shared_view}
use Rattle.cord_plan.proofs.Appending.{append_nothing}
use Rattle.cord_plan.proofs.Sharing.{each_more}
use Rattle.cord_plan.proofs.expressions.Members.with_each.Goals as goal

pub others-init : goal.others-init
others-init c = sym (append_nothing (members_view c.args.self))

pub others-preserved : goal.others-preserved
others-preserved c =
    c.in_ok-members.ensures.made
    ∙ (ap (λ (ms : Exprs). append ms (member (shared_view c.in_ok-clone.field-0) nothing)) c.others.invariant
    ∙ each_more (members_view c.args.self) c.args.others.now c.others.other-index c.other-item.result c.in_ok-clone.field-0
    c.others-test.true c.other-item.is c.in_ok-clone.ensures.cases)
