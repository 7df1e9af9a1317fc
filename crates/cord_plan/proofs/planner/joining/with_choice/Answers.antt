use Rattle.cord_plan.proofs.Common.{refl, sym, ap, ◌∙◌, name, expr_of, choice_view, members_view, shared_view}
use Rattle.cord_plan.specs.declared.planner.operand_choices.Choice.{Choice}
use Rattle.cord_plan.proofs.Joined.{added_one}
use Rattle.cord_plan.proofs.Sharing.{made_as}
use Rattle.cord_plan.proofs.planner.joining.with_choice.Goals as goal

pub returns-in_ok-name-in-Named : goal.returns-in_ok-name-in-Named
returns-in_ok-name-in-Named c =
    let is = ap (λ (d : Choice). expr_of (choice_view d)) c.in-Named.is in
    record {
      made = made_as c.with.result _ _
          (added_one (members_view c.args.members) (shared_view c.in_ok-name-in-Named.field-0) (expr_of (choice_view c.args.choice.now))
          (name c.in-Named.name.now) (c.in_ok-name-in-Named.ensures.made ∙ sym is) is refl)
          c.with.ensures.made;
    }
