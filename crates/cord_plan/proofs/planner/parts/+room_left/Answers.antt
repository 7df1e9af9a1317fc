use Rattle.std.specs.Prelude.{◌<◌, ◌+◌}
use Rattle.cord_plan.proofs.Common.{ℕ, map, drop, sym, ap, subst, ◌∙◌, rules, parts, parts_of, room_left, expr_view, members_of}
use Rattle.cord_plan.proofs.Common.{members_view, shared_view}
use Rattle.cord_plan.specs.Exprs as plain
use Rattle.cord_plan.specs.declared.expressions.Expr.{Expr}
use Rattle.cord_plan.proofs.Halves.{prefix_falls, halves_None, halves_Some, rest_falls}
use Rattle.cord_plan.proofs.PartSums.{none_for_more, room_for_more, parts_both, parts_member}
use Rattle.cord_plan.proofs.MemberTexts.{weight, weights, member_there}
use Rattle.cord_plan.proofs.planner.parts.+room_left.Goals as goal

pub room_left_all-room_left-requires : goal.room_left_all-room_left-requires
room_left_all-room_left-requires t c =
    let there = member_there _ _ _ c.loop-member-test.true c.member-item.is in
    let below : weight (expr_view c.as_ref.result.now) < weights (members_of (map shared_view c.args.members.now)) =
    subst (λ (e : Expr). weight (expr_view e) < weights (members_of (map shared_view c.args.members.now))) (sym c.as_ref.ensures) there in
    search (rules, below)

pub room_left_all-returns-in-None : goal.room_left_all-returns-in-None
room_left_all-returns-in-None t c =
    let reported = c.room_left.ensures ∙ ap (λ (e : Expr). room_left (parts (expr_view e)) c.loop-member.rest) c.as_ref.ensures in
    none_for_more _ (parts_of (members_of (map shared_view (drop (c.loop-member.member-index + 1) c.args.members.now)))) _
    (sym c.in-None.is ∙ reported)
    ∙ sym (c.loop-member.invariant
    ∙ ap (λ (n : ℕ). room_left n c.loop-member.rest) (parts_member _ _ _ c.loop-member-test.true c.member-item.is))

pub room_left_all-loop-member-preserved : goal.room_left_all-loop-member-preserved
room_left_all-loop-member-preserved t c =
    let reported = c.room_left.ensures ∙ ap (λ (e : Expr). room_left (parts (expr_view e)) c.loop-member.rest) c.as_ref.ensures in
    c.loop-member.invariant
    ∙ (ap (λ (n : ℕ). room_left n c.loop-member.rest) (parts_member _ _ _ c.loop-member-test.true c.member-item.is)
    ∙ room_for_more _ (parts_of (members_of (map shared_view (drop (c.loop-member.member-index + 1) c.args.members.now)))) _ _
    (sym c.in-Some.is ∙ reported))

pub room_left_members-room_left_all-requires : goal.room_left_members-room_left_all-requires
room_left_members-room_left_all-requires t c =
    search (rules, rest_falls (members_view c.args.members.now) c.halves.result.0 c.halves.result.1.now c.halves.ensures.members)

pub room_left_members-room_left_members-requires : goal.room_left_members-room_left_members-requires
room_left_members-room_left_members-requires t c =
    search (rules, prefix_falls (members_view c.args.members.now) _ _ c.halves.ensures.members c.halves.ensures.after c.in-Some.prefix c.in-Some.is)

pub room_left_members-room_left_all-requires-in-Some-room_left_members :
    goal.room_left_members-room_left_all-requires-in-Some-room_left_members
room_left_members-room_left_all-requires-in-Some-room_left_members t c =
    search (rules, rest_falls (members_view c.args.members.now) c.halves.result.0 c.halves.result.1.now c.halves.ensures.members)

pub room_left_members-returns-in-None : goal.room_left_members-returns-in-None
room_left_members-returns-in-None t c =
    c.room_left_all.ensures ∙ ap (λ (es : plain.Exprs). room_left (parts_of es) c.args.room)
    (sym (halves_None (members_view c.args.members.now) _ _ c.halves.ensures.members c.in-None.is))

pub room_left_members-returns-in-Some-room_left_members : goal.room_left_members-returns-in-Some-room_left_members
room_left_members-returns-in-Some-room_left_members t c =
    let all = members_view c.args.members.now in
    c.room_left_all-in-Some-room_left_members.ensures
    ∙ sym (parts_both all _ _ _ (halves_Some all _ _ c.halves.ensures.members c.in-Some.prefix c.in-Some.is)
    ∙ room_for_more _ _ _ _ (sym c.in-Some-room_left_members.is ∙ c.room_left_members.ensures))

pub room_left_members-returns-in-None-room_left_members : goal.room_left_members-returns-in-None-room_left_members
room_left_members-returns-in-None-room_left_members t c =
    let all = members_view c.args.members.now in
    let rest = members_of (map shared_view c.halves.result.1.now) in
    none_for_more _ (parts_of rest) _ (sym c.in-None-room_left_members.is ∙ c.room_left_members.ensures)
    ∙ sym (parts_both all _ rest _ (halves_Some all _ _ c.halves.ensures.members c.in-Some.prefix c.in-Some.is))
