use Rattle.cord_run.proofs.Common.{AddsExpression, AddsMembers, IfOk, IfOk-weaker, ap, drop, drop_all, expr_view, halves_Some, members_seen}
use Rattle.cord_run.proofs.Common.{members_view, prefix_falls, rest_falls, rules, shared_view, subst, sym, view-Cat, view-Name, view-Run}
use Rattle.cord_run.proofs.Common.{view-Sub, ◌∙◌, ◌≡◌, ◌<◌, ◌+◌}
use Rattle.cord_plan.specs.Exprs as plain
use Rattle.cord_plan.specs.declared.expressions.Expr.{Expr}
use Rattle.cord_run.proofs.ShortTexts.{weight, weights, member_smaller, members_left}
use Rattle.cord_run.proofs.Ranges.{name_added, run_added, cat_added, sub_added}
use Rattle.cord_run.proofs.MemberRanges.{SoFar, both_added, ends_early, ends_last, goes_on, starts}
use Rattle.cord_run.proofs.expressions.ranges.+add_range.Goals as goal

pub add_range-returns-in-Name : goal.add_range-returns-in-Name
add_range-returns-in-Name t c =
    let entries = c.args.store.now.entries.items in
    let x = c.in-Name.name in
    let old = c.args.pieces.now.items in
    let new = c.add_name.new.pieces.items in
    let view : expr_view c.args.expression.now ≡ plain.name x = ap expr_view c.in-Name.is ∙ view-Name x in
    subst (λ (e : plain.Expr). IfOk c.add_name.result (λ after. AddsExpression entries e c.args.wanted after old new))
    (sym view)
    (IfOk-weaker c.add_name.result _ _ (λ after. name_added entries x c.args.wanted after old new) c.add_name.ensures)

pub add_range-returns-in-Run : goal.add_range-returns-in-Run
add_range-returns-in-Run t c =
    let entries = c.args.store.now.entries.items in
    let old = c.args.pieces.now.items in
    let new = c.add_run.new.pieces.items in
    let view : expr_view c.args.expression.now ≡ plain.run c.in-Run.byte c.in-Run.count =
    ap expr_view c.in-Run.is ∙ view-Run c.in-Run.byte c.in-Run.count in
    subst (λ (e : plain.Expr). IfOk c.add_run.result (λ after. AddsExpression entries e c.args.wanted after old new))
    (sym view)
    (IfOk-weaker c.add_run.result _ _ (λ after. run_added entries c.in-Run.byte c.in-Run.count c.args.wanted after old new)
    c.add_run.ensures)

pub add_range-returns-in-Cat : goal.add_range-returns-in-Cat
add_range-returns-in-Cat t c =
    let entries = c.args.store.now.entries.items in
    let es = members_view c.in-Cat.members in
    let old = c.args.pieces.now.items in
    let new = c.add_members.new.pieces.items in
    let view : expr_view c.args.expression.now ≡ plain.cat es = ap expr_view c.in-Cat.is ∙ view-Cat c.in-Cat.members in
    subst (λ (e : plain.Expr). IfOk c.add_members.result (λ after. AddsExpression entries e c.args.wanted after old new))
    (sym view)
    (IfOk-weaker c.add_members.result _ _ (λ after. cat_added entries es c.args.wanted after old new) c.add_members.ensures)

pub add_range-returns-in_ok-rest-in-Sub : goal.add_range-returns-in_ok-rest-in-Sub
add_range-returns-in_ok-rest-in-Sub t c =
    let entries = c.args.store.now.entries.items in
    let inner = expr_view c.in-Sub.expression.value in
    let old = c.args.pieces.now.items in
    let new = c.add_range.new.pieces.items in
    let wanted = c.inside-inner.result in
    let rest = c.in_ok-rest-in-Sub.rest in
    let view : expr_view c.args.expression.now ≡ plain.sub inner c.in-Sub.start c.in-Sub.count =
    ap expr_view c.in-Sub.is ∙ view-Sub c.in-Sub.expression c.in-Sub.start c.in-Sub.count in
    let adds : AddsExpression entries inner wanted rest old new =
    subst (λ (e : Expr). AddsExpression entries (expr_view e) wanted rest old new) c.as_ref.ensures c.in_ok-rest-in-Sub.ensures in
    subst (λ (e : plain.Expr). AddsExpression entries e c.args.wanted c.outside.result old new) (sym view)
    (sub_added entries inner c.in-Sub.start c.in-Sub.count c.index_of.result c.index_of-most.result c.args.wanted wanted
    c.index_of.ensures.is c.index_of-most.ensures.is c.inside-inner.ensures rest c.outside.result c.outside.ensures old new adds)

pub add_all-loop-member-init : goal.add_all-loop-member-init
add_all-loop-member-init t c = starts c.args.store.now.entries.items (members_seen c.args.members.now) c.args.wanted c.args.pieces.now.items

pub add_all-returns-then-is_nothing : goal.add_all-returns-then-is_nothing
add_all-returns-then-is_nothing t c =
    let ms = c.args.members.now in
    ends_early c.args.store.now.entries.items (members_seen ms) c.args.wanted c.args.pieces.now.items
    (members_seen (drop c.loop-member.member-index ms)) c.loop-member.left c.loop-member.pieces.items
    (c.is_nothing.ensures c.if-is_nothing.true) c.loop-member.invariant

pub add_all-add_range-requires : goal.add_all-add_range-requires
add_all-add_range-requires t c =
    let there : weight (shared_view c.member-item.result) < weights (members_seen c.args.members.now) =
    member_smaller c.args.members.now c.loop-member.member-index c.member-item.result c.loop-member-test.true c.member-item.is in
    let below : weight (expr_view c.as_ref-expression.result.now) < weights (members_seen c.args.members.now) =
    subst (λ (x : Expr). weight (expr_view x) < weights (members_seen c.args.members.now)) (sym c.as_ref-expression.ensures) there in
    search (rules, below)

pub add_all-loop-member-preserved : goal.add_all-loop-member-preserved
add_all-loop-member-preserved t c =
    let entries = c.args.store.now.entries.items in
    let ms = c.args.members.now in
    let k = c.loop-member.member-index in
    let es = members_seen ms in
    let e = shared_view c.member-item.result in
    let others = members_seen (drop (k + 1) ms) in
    let left = c.loop-member.left in
    let old = c.args.pieces.now.items in
    let now = c.loop-member.pieces.items in
    let next = c.add_range.new.pieces.items in
    let after = c.in_ok-left.left in
    let at : members_seen (drop k ms) ≡ plain.member e others =
    members_left ms k c.member-item.result c.loop-member-test.true c.member-item.is in
    goes_on entries es c.args.wanted old e others left after now next
    (subst (λ (xs : plain.Exprs). SoFar entries es c.args.wanted old xs left now) at c.loop-member.invariant)
    (subst (λ (x : Expr). AddsExpression entries (expr_view x) left after now next) c.as_ref-expression.ensures c.in_ok-left.ensures)

pub add_all-returns : goal.add_all-returns
add_all-returns t c =
    let entries = c.args.store.now.entries.items in
    let ms = c.args.members.now in
    let left = c.loop-member.left in
    let now = c.loop-member.pieces.items in
    ends_last entries (members_seen ms) c.args.wanted c.args.pieces.now.items left now
    (subst (λ (xs : plain.Exprs). SoFar entries (members_seen ms) c.args.wanted c.args.pieces.now.items xs left now)
    (ap members_seen (drop_all c.loop-member.member-index ms c.loop-member-test.false)) c.loop-member.invariant)

pub add_members-add_members-requires : goal.add_members-add_members-requires
add_members-add_members-requires t c =
    let below : weights (members_view c.in-Some.prefix.now) + 1 < weights (members_view c.args.members.now) + 1 =
    prefix_falls (members_view c.args.members.now) c.halves.result.0 c.halves.result.1.now c.halves.ensures.members
    c.halves.ensures.after c.in-Some.prefix c.in-Some.is in
    search (rules, below)

pub add_members-add_all-requires-in-Some : goal.add_members-add_all-requires-in-Some
add_members-add_all-requires-in-Some t c =
    let below : weights (members_seen c.halves.result.1.now) < weights (members_view c.args.members.now) + 1 =
    rest_falls (members_view c.args.members.now) c.halves.result.0 c.halves.result.1.now c.halves.ensures.members in
    search (rules, below)

pub add_members-returns-in_ok-left-in-Some : goal.add_members-returns-in_ok-left-in-Some
add_members-returns-in_ok-left-in-Some t c =
    let entries = c.args.store.now.entries.items in
    let prefix = members_view c.in-Some.prefix.now in
    let rest = members_seen c.halves.result.1.now in
    let old = c.args.pieces.now.items in
    let now = c.add_members.new.pieces.items in
    let next = c.add_all-in-Some.new.pieces.items in
    let whole = halves_Some (members_view c.args.members.now) c.halves.result.0 c.halves.result.1.now c.halves.ensures.members
    c.in-Some.prefix c.in-Some.is in
    subst (λ (es : plain.Exprs). IfOk c.add_all-in-Some.result (λ after. AddsMembers entries es c.args.wanted after old next)) (sym whole)
    (IfOk-weaker c.add_all-in-Some.result _ _ (λ after. both_added entries prefix rest c.args.wanted c.in_ok-left-in-Some.left after old now
    next c.in_ok-left-in-Some.ensures) c.add_all-in-Some.ensures)
