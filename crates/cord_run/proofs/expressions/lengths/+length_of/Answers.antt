use Rattle.cord_run.proofs.Common.{ℕ, Result, Ok, drop, sym, ap, subst, ◌∙◌, rules, IfSome, Option, expr_view, members_view, shared_view}
use Rattle.cord_run.proofs.Common.{view-Cat, view-Name, FaultKind, and_then, prefix_falls, halves_Some, rest_falls, length_in, counted}
use Rattle.cord_run.proofs.Common.{extent_in, members_extent, members_seen, handed_on, ◌≡◌, ◌<◌, ◌+◌}
use Rattle.cord_plan.specs.Exprs as plain
use Rattle.cord_plan.specs.declared.expressions.Expr.{Expr}
use Rattle.cord_run.specs.declared.expressions.lengths.Named.{Named}
use Rattle.cord_run.proofs.MemberRanges.{all_counted}
use Rattle.cord_run.proofs.ShortTexts.{weight, weights, member_counted, member_smaller, member_faulty, resolve_all, counted_length}
use Rattle.cord_run.proofs.expressions.lengths.+length_of.Goals as goal
use Rattle.cord_run.proofs.expressions.lengths.+length_of.Goals.{length_after-in-Name, length_after-in_default+in_ok-len-in_default}

pub length_of-returns-in_ok-total-in-Cat : goal.length_of-returns-in_ok-total-in-Cat
length_of-returns-in_ok-total-in-Cat t c =
    let es = members_view c.in-Cat.members in
    let view : expr_view c.args.expression.now ≡ plain.cat es = ap expr_view c.in-Cat.is ∙ view-Cat c.in-Cat.members in
    c.as_length.ensures
    ∙ counted_length c.in_ok-total-in-Cat.total (members_extent c.args.store.now.entries.items es) c.in_ok-total-in-Cat.ensures
    ∙ ap (λ (e : plain.Expr). extent_in c.args.store.now.entries.items e) (sym view)

pub length_after-length_of-requires : goal.length_after-length_of-requires
length_after-length_of-requires t c =
    let there : weight (shared_view c.member-item.result) < weights (members_seen c.args.members.now) =
    member_smaller c.args.members.now c.loop-member.member-index c.member-item.result c.loop-member-test.true c.member-item.is in
    let below : weight (expr_view c.as_ref-expression.result.now) < weights (members_seen c.args.members.now) =
    subst (λ (e : Expr). weight (expr_view e) < weights (members_seen c.args.members.now)) (sym c.as_ref-expression.ensures) there in
    search (rules, below)

pub length_after-loop-member-preserved : goal.length_after-loop-member-preserved
length_after-loop-member-preserved t c =
    let entries = c.args.store.now.entries.items in
    let ms = c.args.members.now in
    let i = c.loop-member.member-index in
    let left = members_extent entries (members_seen (drop (i + 1) ms)) in
    let seen : extent_in entries (shared_view c.member-item.result) ≡ extent_in entries (expr_view c.as_ref-expression.result.now) =
    ap (λ (e : Expr). extent_in entries (expr_view e)) (sym c.as_ref-expression.ensures) in
    elim c.match-expression.branch [
      | length_after-in-Name w ↦
          let len = w.with_length-known.result.len in
          let reported : extent_in entries (expr_view c.as_ref-expression.result.now) ≡ Ok len =
          ap (λ (e : plain.Expr). extent_in entries e) (ap expr_view w.in-Name.is ∙ view-Name w.in-Name.name)
          ∙ ap (λ (n : ℕ). Ok n) (sym w.with_length-known.ensures.len) in
          record {
            extent = c.loop-member.invariant.extent
                ∙ member_counted entries ms i c.member-item.result c.loop-member-test.true c.member-item.is c.loop-member.total len
                (seen ∙ reported)
                ∙ ap (λ (n : ℕ). counted n left) (sym (w.total-is ∙ w.saturating_add-total.ensures));
            small = search rules;
            known = subst (λ (last : Option Named). IfSome last (λ known. known.len ≡ length_in entries known.name.now)) (sym w.last-is)
                w.with_length-known.ensures.known;
          }
      | length_after-in_default+in_ok-len-in_default w ↦
          record {
            extent = c.loop-member.invariant.extent
                ∙ member_counted entries ms i c.member-item.result c.loop-member-test.true c.member-item.is c.loop-member.total
                w.in_ok-len-in_default.len (seen ∙ sym w.in_ok-len-in_default.ensures)
                ∙ ap (λ (n : ℕ). counted n left) (sym (w.total-is ∙ w.saturating_add-total-in_default.ensures));
            small = search rules;
            known = subst (λ (last : Option Named). IfSome last (λ known. known.len ≡ length_in entries known.name.now)) (sym w.last-is)
                c.loop-member.invariant.known;
          }
    ]

pub length_after-returns-in_err-len-in_default : goal.length_after-returns-in_err-len-in_default
length_after-returns-in_err-len-in_default t c =
    let fault = c.in_err-len-in_default.field-0.0 in
    sym (c.loop-member.invariant.extent ∙ member_faulty c.args.store.now.entries.items c.args.members.now c.loop-member.member-index
    c.member-item.result c.loop-member-test.true c.member-item.is c.loop-member.total fault
    (ap (λ (e : Expr). extent_in c.args.store.now.entries.items (expr_view e)) (sym c.as_ref-expression.ensures)
    ∙ sym c.in_err-len-in_default.ensures)
    ∙ handed_on fault c.from_residual.result c.from_residual.ensures.1)

pub length_after-returns : goal.length_after-returns
length_after-returns t c =
    sym (c.loop-member.invariant.extent ∙ resolve_all c.args.store.now.entries.items c.args.members.now c.loop-member.member-index
    c.loop-member.total c.loop-member-test.false c.loop-member.invariant.small)

pub length_of_members-length_of_members-requires : goal.length_of_members-length_of_members-requires
length_of_members-length_of_members-requires t c =
    let below : weights (members_view c.in-Some.prefix.now) + 1 < weights (members_view c.args.members.now) + 1 =
    prefix_falls (members_view c.args.members.now) c.halves.result.0 c.halves.result.1.now c.halves.ensures.members
    c.halves.ensures.after c.in-Some.prefix c.in-Some.is in
    search (rules, below)

pub length_of_members-length_after-requires-in-Some : goal.length_of_members-length_after-requires-in-Some
length_of_members-length_after-requires-in-Some t c =
    let below : weights (members_seen c.halves.result.1.now) < weights (members_view c.args.members.now) + 1 =
    rest_falls (members_view c.args.members.now) c.halves.result.0 c.halves.result.1.now c.halves.ensures.members in
    search (rules, below)

pub length_of_members-returns-in_ok-total-in-Some : goal.length_of_members-returns-in_ok-total-in-Some
length_of_members-returns-in_ok-total-in-Some t c =
    let entries = c.args.store.now.entries.items in
    let prefix = members_view c.in-Some.prefix.now in
    let rest = members_seen c.halves.result.1.now in
    let whole = halves_Some (members_view c.args.members.now) c.halves.result.0 c.halves.result.1.now c.halves.ensures.members
    c.in-Some.prefix c.in-Some.is in
    c.length_after-in-Some.ensures
    ∙ sym (ap (λ (es : plain.Exprs). counted 0 (members_extent entries es)) whole ∙ all_counted entries prefix rest
    ∙ ap (λ (r : Result ℕ FaultKind). and_then r (λ total. counted total (members_extent entries rest)))
    (sym c.in_ok-total-in-Some.ensures))

pub length_of_members-returns-in_err-total-in-Some : goal.length_of_members-returns-in_err-total-in-Some
length_of_members-returns-in_err-total-in-Some t c =
    let entries = c.args.store.now.entries.items in
    let prefix = members_view c.in-Some.prefix.now in
    let rest = members_seen c.halves.result.1.now in
    let whole = halves_Some (members_view c.args.members.now) c.halves.result.0 c.halves.result.1.now c.halves.ensures.members
    c.in-Some.prefix c.in-Some.is in
    sym (ap (λ (es : plain.Exprs). counted 0 (members_extent entries es)) whole ∙ all_counted entries prefix rest
    ∙ ap (λ (r : Result ℕ FaultKind). and_then r (λ total. counted total (members_extent entries rest)))
    (sym c.in_err-total-in-Some.ensures)
    ∙ handed_on c.in_err-total-in-Some.field-0.0 c.from_residual.result c.from_residual.ensures.1)
