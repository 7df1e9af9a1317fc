use Rattle.std.specs.Prelude.{◌≡◌, ◌<◌, ◌∷◌, ◌++◌}
use Rattle.cord_plan.proofs.Common.{Global, rules, ℕ, List, [], map, sym, ap, subst, ◌∙◌, codes, Number, Run, Members, Rc}
use Rattle.cord_plan.proofs.Common.{exprs_after, expr, expr_view, members_of, members_view, shared_view}
use Rattle.cord_plan.specs.declared.expressions.Expr.{Expr}
use Rattle.cord_plan.specs.declared.expressions.Expr.TheVariants.{Cat, Sub}
use Rattle.cord_plan.specs.PlanText.{exprs, number}
use Rattle.cord_plan.proofs.ExprViews.{view-Run, view-Cat, view-Sub}
use Rattle.cord_plan.proofs.Halves.{prefix_falls, halves_None, halves_Some, rest_falls}
use Rattle.cord_plan.proofs.MemberTexts.{weight, weights, members_text, more_text, member_text, members_spaced, member_there, exprs_alone}
use Rattle.cord_plan.proofs.MemberTexts.{blank_after, exprs_append}
use Rattle.cord_plan.proofs.Spacing.{two_words, three_words, blank_later, spaced_writes, spaced_broken}
use Rattle.cord_plan.proofs.Writing.{writes_same, writes_then, writes_stopped, writes_failed}
use Rattle.cord_plan.proofs.plan_text.expressions.+printed_expressions.Goals as goal

-- what stands after the expression of a `sub`
abbrev suffix : Number → Number → List ℕ
suffix i n = 32 ∷ (number i ++ 32 ∷ (number n ++ 41 ∷ []))

run_text : (e : Expr) (byte count : Number) → e ≡ Run byte count →
    codes "run(" ++ (number byte ++ 32 ∷ (number count ++ 41 ∷ [])) ≡ expr (expr_view e)
run_text e byte count is = sym (ap (λ f. expr (expr_view f)) is ∙ ap expr (view-Run byte count)
    ∙ ap (λ (t : List ℕ). codes "run(" ++ t) (two_words (number byte) (number count) (41 ∷ [])))

cat_text : (e : Expr) (ms : Members) → e ≡ Cat ms → codes "cat(" ++ (exprs (members_view ms) ++ 41 ∷ []) ≡ expr (expr_view e)
cat_text e ms is = sym (ap (λ f. expr (expr_view f)) is ∙ ap expr (view-Cat ms))

sub_text : (e : Expr) (f : Rc Expr Global) (i n : Number) → e ≡ Sub f i n →
    codes "sub(" ++ (expr (expr_view f.value) ++ suffix i n) ≡ expr (expr_view e)
sub_text e f i n is = sym (ap (λ g. expr (expr_view g)) is ∙ ap expr (view-Sub f i n)
    ∙ ap (λ (t : List ℕ). codes "sub(" ++ t) (three_words (expr (expr_view f.value)) (number i) (number n) (41 ∷ [])))

pub put_expression-returns-in_err-put_all-in-Cat : goal.put_expression-returns-in_err-put_all-in-Cat
put_expression-returns-in_err-put_all-in-Cat g t c =
    let es = members_view c.in-Cat.members in
    writes_failed c.from_residual.ensures.0 (writes_same (cat_text c.args.expression.now c.in-Cat.members c.in-Cat.is)
    (writes_stopped (exprs es ++ 41 ∷ []) c.in_err-put_all-in-Cat.ensures))

pub put_expression-returns-in_err-put_members-in-Cat : goal.put_expression-returns-in_err-put_members-in-Cat
put_expression-returns-in_err-put_members-in-Cat g t c =
    writes_failed c.from_residual-in_err-put_members-in-Cat.ensures.0
    (writes_same (cat_text c.args.expression.now c.in-Cat.members c.in-Cat.is)
    (writes_then c.in_ok-put_all-in-Cat.ensures (writes_stopped (41 ∷ []) c.in_err-put_members-in-Cat.ensures)))

pub put_expression-returns-in_ok-put_members-in-Cat : goal.put_expression-returns-in_ok-put_members-in-Cat
put_expression-returns-in_ok-put_members-in-Cat g t c =
    writes_same (cat_text c.args.expression.now c.in-Cat.members c.in-Cat.is)
    (writes_then c.in_ok-put_all-in-Cat.ensures (writes_then c.in_ok-put_members-in-Cat.ensures c.put_all-in-Cat-2.ensures))

pub put_expression-returns-in_err-put_all-in-Sub : goal.put_expression-returns-in_err-put_all-in-Sub
put_expression-returns-in_err-put_all-in-Sub g t c =
    let inner = expr_view c.in-Sub.expression.value in
    writes_failed c.from_residual-in_err-put_all-in-Sub.ensures.0
    (writes_same (sub_text c.args.expression.now c.in-Sub.expression c.in-Sub.start c.in-Sub.count c.in-Sub.is)
    (writes_stopped (expr inner ++ suffix c.in-Sub.start c.in-Sub.count) c.in_err-put_all-in-Sub.ensures))

pub put_expression-returns-in_err-put_expression-in-Sub : goal.put_expression-returns-in_err-put_expression-in-Sub
put_expression-returns-in_err-put_expression-in-Sub g t c =
    let same = ap (λ e. expr (expr_view e)) c.as_ref.ensures in
    writes_failed c.from_residual-in_err-put_expression-in-Sub.ensures.0
    (writes_same (sub_text c.args.expression.now c.in-Sub.expression c.in-Sub.start c.in-Sub.count c.in-Sub.is)
    (writes_then c.in_ok-put_all-in-Sub.ensures
    (writes_stopped (suffix c.in-Sub.start c.in-Sub.count) (writes_same same c.in_err-put_expression-in-Sub.ensures))))

pub put_expression-returns-in_ok-put_expression-in-Sub : goal.put_expression-returns-in_ok-put_expression-in-Sub
put_expression-returns-in_ok-put_expression-in-Sub g t c =
    let same = ap (λ e. expr (expr_view e)) c.as_ref.ensures in
    writes_same (sub_text c.args.expression.now c.in-Sub.expression c.in-Sub.start c.in-Sub.count c.in-Sub.is)
    (writes_then c.in_ok-put_all-in-Sub.ensures
    (writes_then (writes_same same c.in_ok-put_expression-in-Sub.ensures) c.put_numbers-in-Sub.ensures))

pub put_expression-returns-in-Run : goal.put_expression-returns-in-Run
put_expression-returns-in-Run g t c =
    writes_same (run_text c.args.expression.now c.in-Run.byte c.in-Run.count c.in-Run.is)
    c.put_numbers.ensures

pub put_listed-put_expression-requires : goal.put_listed-put_expression-requires
put_listed-put_expression-requires g t c κs within =
    let ms = c.args.members.now in
    let there : weight (shared_view c.member-item.result) < weights (members_of (map shared_view ms)) =
    member_there ms c.loop-member.member-index c.member-item.result c.loop-member-test.true c.member-item.is in
    let below : weight (expr_view c.as_ref.result.now) < weights (members_of (map shared_view ms)) =
    subst (λ (e : Expr). weight (expr_view e) < weights (members_of (map shared_view ms))) (sym c.as_ref.ensures) there in
    search (rules, below)

pub put_listed-returns-in_err-put_all : goal.put_listed-returns-in_err-put_all
put_listed-returns-in_err-put_all g t c =
    let first = c.args.first.now in
    writes_failed c.from_residual.ensures.0 (spaced_broken first (members_text first) more_text member_text (members_spaced first)
    c.args.members.now c.loop-member.member-index c.member-item.result c.loop-member-test.true c.member-item.is c.loop-member.invariant.taken
    (writes_stopped (expr (shared_view c.member-item.result)) (writes_same c.loop-member.invariant.blank c.in_err-put_all.ensures)))

pub put_listed-returns-in_err-put_expression : goal.put_listed-returns-in_err-put_expression
put_listed-returns-in_err-put_expression g t c =
    let first = c.args.first.now in
    writes_failed c.from_residual-in_err-put_expression.ensures.0 (spaced_broken first (members_text first) more_text member_text (members_spaced first)
    c.args.members.now c.loop-member.member-index c.member-item.result c.loop-member-test.true c.member-item.is c.loop-member.invariant.taken
    (writes_then (writes_same c.loop-member.invariant.blank c.in_ok-put_all.ensures)
    (writes_same (ap (λ e. expr (expr_view e)) c.as_ref.ensures) c.in_err-put_expression.ensures)))

pub put_listed-loop-member-preserved : goal.put_listed-loop-member-preserved
put_listed-loop-member-preserved g t c =
    let first = c.args.first.now in
    record {
      taken = spaced_writes first (members_text first) more_text member_text (members_spaced first)
          c.args.members.now c.loop-member.member-index c.member-item.result c.loop-member-test.true c.member-item.is c.loop-member.invariant.taken
          (writes_then (writes_same c.loop-member.invariant.blank c.in_ok-put_all.ensures)
          (writes_same (ap (λ e. expr (expr_view e)) c.as_ref.ensures) c.in_ok-put_expression.ensures));
      blank = blank_later first c.loop-member.member-index;
    }

pub put_members-put_listed-requires : goal.put_members-put_listed-requires
put_members-put_listed-requires g t c κs within =
    search (rules, rest_falls (members_view c.args.members.now) c.halves.result.0 c.halves.result.1.now c.halves.ensures.members)

pub put_members-put_members-requires : goal.put_members-put_members-requires
put_members-put_members-requires g t c κs within =
    search (
      rules,
      prefix_falls (members_view c.args.members.now) c.halves.result.0 c.halves.result.1.now c.halves.ensures.members
          c.halves.ensures.after c.in-Some.prefix c.in-Some.is,
    )

pub put_members-put_listed-requires-in-Some : goal.put_members-put_listed-requires-in-Some
put_members-put_listed-requires-in-Some g t c κs within =
    search (rules, rest_falls (members_view c.args.members.now) c.halves.result.0 c.halves.result.1.now c.halves.ensures.members)

pub put_members-returns-in-None : goal.put_members-returns-in-None
put_members-returns-in-None g t c =
    writes_same (exprs_alone (members_of (map shared_view c.halves.result.1.now)) ∙ ap exprs
    (sym (halves_None (members_view c.args.members.now) c.halves.result.0 c.halves.result.1.now c.halves.ensures.members c.in-None.is)))
    c.put_listed.ensures

pub put_members-returns-in_err-put_members-in-Some : goal.put_members-returns-in_err-put_members-in-Some
put_members-returns-in_err-put_members-in-Some g t c =
    let prefix = members_view c.in-Some.prefix.now in
    let rest = members_of (map shared_view c.halves.result.1.now) in
    let text = ap exprs (halves_Some (members_view c.args.members.now) c.halves.result.0 c.halves.result.1.now c.halves.ensures.members
    c.in-Some.prefix c.in-Some.is) ∙ exprs_append prefix rest in
    writes_failed c.from_residual.ensures.0 (writes_same (sym text)
    (writes_stopped (exprs_after (blank_after prefix) rest) c.in_err-put_members-in-Some.ensures))

pub put_members-returns-in_ok-put_members-in-Some : goal.put_members-returns-in_ok-put_members-in-Some
put_members-returns-in_ok-put_members-in-Some g t c =
    let prefix = members_view c.in-Some.prefix.now in
    let rest = members_of (map shared_view c.halves.result.1.now) in
    let text = ap exprs (halves_Some (members_view c.args.members.now) c.halves.result.0 c.halves.result.1.now c.halves.ensures.members
    c.in-Some.prefix c.in-Some.is) ∙ exprs_append prefix rest in
    writes_same (sym text) (writes_then c.in_ok-put_members-in-Some.ensures
    (writes_same (ap (λ (blank : List ℕ). exprs_after blank rest) c.blank_after.ensures) c.put_listed-in-Some.ensures))
