use Rattle.cord_plan.proofs.Common.{[], map, Some, sym, ap, ◌∙◌, append, members_of, members_view, shared_view, rest_view, Members}
use Rattle.cord_plan.proofs.Appending.{append_nothing}
use Rattle.cord_plan.proofs.ExprViews.{members_reported, view-Nothing, view-One, view-Two}
use Rattle.cord_plan.proofs.expressions.Members.+halves.Goals as goal

pub halves-returns-in-Nothing-clause-members : goal.halves-returns-in-Nothing-clause-members
halves-returns-in-Nothing-clause-members t c =
    members_reported c.args.self.now (Some c.in-Some.prefix) [] c.in-Some.is (sym (ap rest_view c.in-Nothing.is ∙ view-Nothing))
    ∙ (append_nothing (members_view c.in-Some.prefix.value)
    ∙ (ap members_view (sym c.as_ref.ensures) ∙ c.further_halves.ensures.members))

pub halves-returns-in-One-clause-members : goal.halves-returns-in-One-clause-members
halves-returns-in-One-clause-members t c =
    let rest = map shared_view c.in-One.one.members in
    members_reported c.args.self.now (Some c.in-Some.prefix) rest c.in-Some.is (sym (ap rest_view c.in-One.is ∙ view-One c.in-One.one))
    ∙ ap (λ (ms : Members). append (members_view ms) (members_of rest)) (sym c.as_ref-in-One.ensures)

pub halves-returns-in-Two-clause-members : goal.halves-returns-in-Two-clause-members
halves-returns-in-Two-clause-members t c =
    let rest = map shared_view c.in-Two.two.members in
    members_reported c.args.self.now (Some c.in-Some.prefix) rest c.in-Some.is (sym (ap rest_view c.in-Two.is ∙ view-Two c.in-Two.two))
    ∙ ap (λ (ms : Members). append (members_view ms) (members_of rest)) (sym c.as_ref-in-Two.ensures)
