use Rattle.std.specs.Prelude.{◌≡◌}
use Rattle.cord_plan.proofs.Common.{Some, refl, ap, subst, slice_get, reads_at, true, expr_view, choice_view, expression_in, IsChoiceOf}
use Rattle.cord_plan.proofs.Common.{IfSome_then}
use Rattle.cord_plan.proofs.ExpressionFacts.{facts_later, name_read}
use Rattle.cord_plan.specs.Inlined as plain
use Rattle.cord_plan.proofs.planner.expression_facts.ExpressionFacts.of_choice.Goals as goal

pub returns-in-Named : goal.returns-in-Named
returns-in-Named c = λ s table known from.
    let x = c.in-Named.field-0.now in
    let is : choice_view c.args.choice.now ≡ plain.named x = ap choice_view c.in-Named.is in
    let reads : reads_at (slice_get s c.args.place) x ≡ true = subst (λ (d : plain.Choice). IsChoiceOf s c.args.place table d) is from in
    rw is (record { counted = refl; read = name_read s c.args.place x reads })

pub returns-in-Replaced : goal.returns-in-Replaced
returns-in-Replaced c = λ s table known from.
    let e = expr_view c.in-Replaced.field-1.now in
    let is : choice_view c.args.choice.now ≡ plain.replaced c.in-Replaced.source e = ap choice_view c.in-Replaced.is in
    let there : expression_in table c.in-Replaced.source ≡ Some e =
    subst (λ (d : plain.Choice). IsChoiceOf s c.args.place table d) is from in
    rw is (IfSome_then c.at.result (c.at.ensures s c.args.place table e known there) (λ f facts. facts_later s c.args.place e f facts))
