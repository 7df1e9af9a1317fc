use Rattle.std.specs.Prelude.{◌<◌}
use Rattle.cord_plan.proofs.Common.{map, rules, sym, ap, ◌∙◌, Exprs, append, members_of, members_view, shared_view}
use Rattle.cord_plan.proofs.Appending.{append_thrice}
use Rattle.cord_plan.proofs.Halves.{prefix_lighter, halves_None, halves_Some}
use Rattle.cord_plan.proofs.MemberTexts.{weights}
use Rattle.cord_plan.proofs.Sharing.{made_as}
use Rattle.cord_plan.proofs.expressions.Members.+with_all.Goals as goal

pub with_all-requires : goal.with_all-requires
with_all-requires t c =
    let below : weights (members_view c.in-Some.prefix.now) < weights (members_view c.args.others.now) =
    prefix_lighter (members_view c.args.others.now) c.halves.result.0 c.halves.result.1.now c.halves.ensures.members
    c.halves.ensures.after c.in-Some.prefix c.in-Some.is in
    search (rules, below)

pub returns-in-None : goal.returns-in-None
returns-in-None t c =
    let others = members_view c.args.others.now in
    record {
      made = made_as c.with_each.result _ _
          (ap (λ (es : Exprs). append (members_view c.args.self) es)
          (sym (halves_None others c.halves.result.0 c.halves.result.1.now c.halves.ensures.members c.in-None.is)))
          c.with_each.ensures.made;
    }

pub returns-in_ok-with_all-in-Some : goal.returns-in_ok-with_all-in-Some
returns-in_ok-with_all-in-Some t c =
    let others = members_view c.args.others.now in
    let rest = members_of (map shared_view c.halves.result.1.now) in
    record {
      made = made_as c.with_each-in-Some.result _ _
          (ap (λ (es : Exprs). append es rest) c.in_ok-with_all-in-Some.ensures.made
          ∙ (append_thrice (members_view c.args.self) (members_view c.in-Some.prefix.now) rest
          ∙ ap (λ (es : Exprs). append (members_view c.args.self) es)
          (sym (halves_Some others c.halves.result.0 c.halves.result.1.now c.halves.ensures.members c.in-Some.prefix c.in-Some.is))))
          c.with_each-in-Some.ensures.made;
    }
