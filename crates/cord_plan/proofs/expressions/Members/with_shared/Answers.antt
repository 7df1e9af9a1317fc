use Rattle.cord_plan.proofs.Common.{sym, ap, ◌∙◌, Exprs, append, members_view}
use Rattle.cord_plan.proofs.Sharing.{made_as, nothing_is}
use Rattle.cord_plan.proofs.expressions.Members.with_shared.Goals as goal

pub returns-then-is_nothing : goal.returns-then-is_nothing
returns-then-is_nothing c =
    record {
      made = made_as c.shared.result _ _
          (ap (λ (es : Exprs). append es (members_view c.args.others.now))
          (sym (nothing_is (members_view c.args.self) (sym c.is_nothing.ensures ∙ c.if-is_nothing.true))))
          c.shared.ensures.made;
    }
