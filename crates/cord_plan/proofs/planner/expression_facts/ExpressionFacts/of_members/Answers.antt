use Rattle.std.specs.Prelude.{◌≡◌, ◌+◌, ◌∷◌, ◌++◌, ◌<◌}
use Rattle.cord_plan.proofs.Common.{ℕ, List, [], All, map, take, length, get_or, refl, ap, ◌∙◌, sym, subst, take_more, take_all, map-append, length-map, cat}
use Rattle.cord_plan.proofs.Common.{members, expr_of, choice_view, IsChoiceOf, IsFacts}
use Rattle.std.proofs.lemmas.List.{get_or-map}
use Rattle.std.proofs.lemmas.List.Elements.{All-get_or}
use Rattle.cord_plan.specs.Inlined as plain
use Rattle.cord_plan.specs.declared.planner.operand_choices.Choice.{Choice}
use Rattle.cord_plan.proofs.planner.expression_facts.ExpressionFacts.of_members.Goals as goal

-- the expressions that one choice more stands for
one_more : (cs : List Choice) (i : ℕ) (c : Choice) → i < length cs → c ≡ get_or cs i c →
    map expr_of (map choice_view (take (i + 1) cs)) ≡ map expr_of (map choice_view (take i cs)) ++ expr_of (choice_view c) ∷ []
one_more cs i c lt is =
    ap (λ (ds : List Choice). map expr_of (map choice_view ds))
    (take_more cs i c lt ∙ ap (λ (d : Choice). take i cs ++ d ∷ []) (sym is))
    ∙ (ap (λ (ds : List plain.Choice). map expr_of ds) (map-append choice_view (take i cs) (c ∷ []))
    ∙ map-append expr_of (map choice_view (take i cs)) (choice_view c ∷ []))

one_of : (P : plain.Choice → Type 0) (cs : List Choice) (i : ℕ) (c : Choice) → i < length cs → c ≡ get_or cs i c →
    All P (map choice_view cs) → P (choice_view c)
one_of P cs i c lt is all =
    let within : i < length (map choice_view cs) = rw (length-map cs choice_view) lt in
    subst P (get_or-map choice_view cs i c (choice_view c) lt ∙ ap choice_view (sym is))
    (All-get_or P (map choice_view cs) i (choice_view c) within all)

pub loop-index-init : goal.loop-index-init
loop-index-init c = λ s table known from. record { counted = refl; read = λ x h. let bad : ⊥ = cc in absurd bad }

pub loop-index-preserved : goal.loop-index-preserved
loop-index-preserved c = λ s table known from.
    let cs = c.args.choices.now in
    let i = c.loop-index.index in
    let choice = c.index-choices-index.result in
    let place = c.args.line.now.place in
    let here : IsChoiceOf s place table (choice_view choice) =
    one_of (IsChoiceOf s place table) cs i choice c.loop-index-test.true c.index-choices-index.is from in
    rw (one_more cs i choice c.loop-index-test.true c.index-choices-index.is)
    (c.in_ok-facts.ensures s (place + 1) (map expr_of (map choice_view (take i cs))) (expr_of (choice_view choice))
    (c.loop-index.invariant s table known from) (c.in_ok-more.ensures s table known here))

pub returns : goal.returns
returns c = λ s table known from.
    let cs = c.args.choices.now in
    subst (λ (ds : List Choice). IsFacts s (c.args.line.now.place + 1) (cat (members (map expr_of (map choice_view ds)))) c.loop-index.facts)
    (take_all c.loop-index.index cs c.loop-index-test.false) (c.loop-index.invariant s table known from)
