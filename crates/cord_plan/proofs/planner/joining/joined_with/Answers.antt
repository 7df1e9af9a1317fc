use Rattle.std.specs.Prelude.{◌≡◌}
use Rattle.cord_plan.proofs.Common.{map, pos, subst, IfOk, Numeral, Expr, expr_of, expr_view, choice_view, members_view, shared_view}
use Rattle.cord_plan.proofs.Joined.{joined_more}
use Rattle.cord_plan.proofs.planner.joining.joined_with.Goals as goal

pub returns : goal.returns
returns c =
    record {
      made = subst (λ (e : Expr). IfOk c.cat_of.result (λ x. expr_view x ≡ e))
          (joined_more (map (λ d. expr_of d) (map choice_view c.args.choices.now)) (members_view c.in_ok-members.members)
          (members_view c.in_ok-all.all) (shared_view c.in_ok-byte.field-0) c.args.byte.now (Numeral (pos 1)) c.in_ok-members.ensures.made
          c.in_ok-all.ensures.made c.in_ok-byte.ensures.made) c.cat_of.ensures.made;
    }
