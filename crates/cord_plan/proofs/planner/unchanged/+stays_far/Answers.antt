use Rattle.std.specs.Prelude.{◌≡◌, ◌<◌, ◌+◌, ◌&&◌, ◌++◌}
use Rattle.cord_plan.proofs.Common.{Bool, true, false, List, map, drop, sym, ap, subst, ◌∙◌, rules, at_drop_all, names, number_names, stay}
use Rattle.cord_plan.proofs.Common.{Shared, expr_view, members_of, members_view, shared_view}
use Rattle.cord_plan.specs.Exprs as plain
use Rattle.cord_plan.specs.declared.expressions.Expr.{Expr}
use Rattle.cord_plan.specs.Exprs.{names_of}
use Rattle.cord_plan.proofs.ExprViews.{view-Sub}
use Rattle.cord_plan.proofs.MemberTexts.{weight, weights, member_there}
use Rattle.cord_plan.proofs.Halves.{prefix_falls, halves_None, halves_Some, rest_falls}
use Rattle.cord_plan.proofs.Lasts.{stay_append, stay_both, stay_member, stay_nothing}
use Rattle.cord_plan.proofs.planner.unchanged.+stays_far.Goals as goal

pub all_stay_far-stays_far-requires : goal.all_stay_far-stays_far-requires
all_stay_far-stays_far-requires t c =
    let there = member_there _ _ _ c.loop-member-test.true c.member-item.is in
    let below : weight (expr_view c.as_ref.result.now) < weights (members_of (map shared_view c.args.members.now)) =
    subst (λ (e : Expr). weight (expr_view e) < weights (members_of (map shared_view c.args.members.now))) (sym c.as_ref.ensures) there in
    search (rules, below)

pub all_stay_far-returns-then-not-stays_far : goal.all_stay_far-returns-then-not-stays_far
all_stay_far-returns-then-not-stays_far t c =
    let stable = stay c.args.line.now.statements.now c.args.from c.args.line.now.place in
    let one : stable (names (shared_view c.member-item.result)) ≡ false =
    ap (λ (e : Expr). stable (names (expr_view e))) (sym c.as_ref.ensures) ∙ (sym c.stays_far.ensures ∙ c.if-not-stays_far.true) in
    sym (c.loop-member.invariant ∙ (stay_member _ _ _ _ _ _ c.loop-member-test.true c.member-item.is
    ∙ ap (λ (v : Bool). v && stable (names_of (members_of (map shared_view (drop (c.loop-member.member-index + 1) c.args.members.now))))) one))

pub all_stay_far-loop-member-preserved : goal.all_stay_far-loop-member-preserved
all_stay_far-loop-member-preserved t c =
    let stable = stay c.args.line.now.statements.now c.args.from c.args.line.now.place in
    let one : stable (names (shared_view c.member-item.result)) ≡ true =
    ap (λ (e : Expr). stable (names (expr_view e))) (sym c.as_ref.ensures) ∙ (sym c.stays_far.ensures ∙ c.if-not-stays_far.false) in
    c.loop-member.invariant ∙ (stay_member _ _ _ _ _ _ c.loop-member-test.true c.member-item.is
    ∙ ap (λ (v : Bool). v && stable (names_of (members_of (map shared_view (drop (c.loop-member.member-index + 1) c.args.members.now))))) one)

pub stays_far-returns-then-stays_far : goal.stays_far-returns-then-stays_far
stays_far-returns-then-stays_far t c =
    let stable = stay c.args.line.now.statements.now c.args.from c.args.line.now.place in
    let inner : stable (names (expr_view c.in-Sub.expression.value)) ≡ true =
    ap (λ (e : Expr). stable (names (expr_view e))) (sym c.as_ref.ensures) ∙ (sym c.stays_far.ensures ∙ c.if-stays_far.true) in
    c.numbers_stay-then-stays_far.ensures
    ∙ sym (ap (λ (e : plain.Expr). stable (names e)) (ap expr_view c.in-Sub.is ∙ view-Sub c.in-Sub.expression c.in-Sub.start c.in-Sub.count)
    ∙ (stay_append _ _ _ (names (expr_view c.in-Sub.expression.value)) (number_names c.in-Sub.start ++ number_names c.in-Sub.count)
    ∙ ap (λ (v : Bool). v && stable (number_names c.in-Sub.start ++ number_names c.in-Sub.count)) inner))

pub stays_far-returns-else-stays_far : goal.stays_far-returns-else-stays_far
stays_far-returns-else-stays_far t c =
    let stable = stay c.args.line.now.statements.now c.args.from c.args.line.now.place in
    let inner : stable (names (expr_view c.in-Sub.expression.value)) ≡ false =
    ap (λ (e : Expr). stable (names (expr_view e))) (sym c.as_ref.ensures) ∙ (sym c.stays_far.ensures ∙ c.if-stays_far.false) in
    let whole : stable (names (expr_view c.args.expression.now)) ≡ false =
    ap (λ (e : plain.Expr). stable (names e)) (ap expr_view c.in-Sub.is ∙ view-Sub c.in-Sub.expression c.in-Sub.start c.in-Sub.count)
    ∙ (stay_append _ _ _ (names (expr_view c.in-Sub.expression.value)) (number_names c.in-Sub.start ++ number_names c.in-Sub.count)
    ∙ ap (λ (v : Bool). v && stable (number_names c.in-Sub.start ++ number_names c.in-Sub.count)) inner) in
    cc

pub all_stay_far-returns : goal.all_stay_far-returns
all_stay_far-returns t c =
    let stable = stay c.args.line.now.statements.now c.args.from c.args.line.now.place in
    sym (c.loop-member.invariant ∙ (at_drop_all (λ (es : List Shared). stable (names_of (members_of (map shared_view es)))) _ _
    c.loop-member-test.false ∙ stay_nothing c.args.line.now.statements.now c.args.from c.args.line.now.place))

pub members_stay_far-all_stay_far-requires : goal.members_stay_far-all_stay_far-requires
members_stay_far-all_stay_far-requires t c =
    search (rules, rest_falls (members_view c.args.members.now) c.halves.result.0 c.halves.result.1.now c.halves.ensures.members)

pub members_stay_far-members_stay_far-requires : goal.members_stay_far-members_stay_far-requires
members_stay_far-members_stay_far-requires t c =
    search (rules, prefix_falls (members_view c.args.members.now) _ _ c.halves.ensures.members c.halves.ensures.after c.in-Some.prefix c.in-Some.is)

pub members_stay_far-all_stay_far-requires-then-members_stay_far : goal.members_stay_far-all_stay_far-requires-then-members_stay_far
members_stay_far-all_stay_far-requires-then-members_stay_far t c =
    search (rules, rest_falls (members_view c.args.members.now) c.halves.result.0 c.halves.result.1.now c.halves.ensures.members)

pub members_stay_far-returns-in-None : goal.members_stay_far-returns-in-None
members_stay_far-returns-in-None t c =
    c.all_stay_far.ensures ∙ ap (λ (es : plain.Exprs). stay c.args.line.now.statements.now c.args.from c.args.line.now.place (names_of es))
    (sym (halves_None (members_view c.args.members.now) _ _ c.halves.ensures.members c.in-None.is))

pub members_stay_far-returns-then-members_stay_far : goal.members_stay_far-returns-then-members_stay_far
members_stay_far-returns-then-members_stay_far t c =
    let last = stay c.args.line.now.statements.now c.args.from c.args.line.now.place
    (names_of (members_of (map shared_view c.halves.result.1.now))) in
    c.all_stay_far-then-members_stay_far.ensures ∙ sym (stay_both _ _ _ (members_view c.args.members.now) (members_view c.in-Some.prefix.now)
    (members_of (map shared_view c.halves.result.1.now)) (halves_Some (members_view c.args.members.now) _ _ c.halves.ensures.members c.in-Some.prefix c.in-Some.is)
    ∙ ap (λ (v : Bool). v && last) (sym c.members_stay_far.ensures ∙ c.if-members_stay_far.true))

pub members_stay_far-returns-else-members_stay_far : goal.members_stay_far-returns-else-members_stay_far
members_stay_far-returns-else-members_stay_far t c =
    let last = stay c.args.line.now.statements.now c.args.from c.args.line.now.place
    (names_of (members_of (map shared_view c.halves.result.1.now))) in
    c.if-members_stay_far.false ∙ sym (stay_both _ _ _ (members_view c.args.members.now) (members_view c.in-Some.prefix.now)
    (members_of (map shared_view c.halves.result.1.now)) (halves_Some (members_view c.args.members.now) _ _ c.halves.ensures.members c.in-Some.prefix c.in-Some.is)
    ∙ ap (λ (v : Bool). v && last) (sym c.members_stay_far.ensures ∙ c.if-members_stay_far.false))
