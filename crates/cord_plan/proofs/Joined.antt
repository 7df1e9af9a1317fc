-- The members of a `cat`, one operand after the other.
use Rattle.std.specs.Prelude.{◌≡◌, ◌+◌, ◌<◌, ◌∷◌, ◌++◌}
use Rattle.cord_plan.proofs.Common.{ℕ, List, [], map, take, length, get_or, refl, sym, ap, ◌∙◌, map-append, take_more, Number, Expr, Exprs}
use Rattle.cord_plan.proofs.Common.{run, cat, nothing, member, append, preceding, members, expr_of, choice_view}
use Rattle.cord_plan.specs.declared.planner.operand_choices.Choice.{Choice}
use Rattle.cord_plan.specs.Inlined as plain
use Rattle.cord_plan.proofs.Appending.{append_nothing, append_thrice}

prefix_append : (e : Expr) (a b : Exprs) → preceding e (append a b) ≡ append (preceding e a) b
prefix_append (cat es) a b = sym (append_thrice es a b)
prefix_append e a b = refl

-- one expression more
pub members_more : (es : List Expr) (e : Expr) → members (es ++ e ∷ []) ≡ append (members es) (preceding e nothing)
members_more [] e = refl
members_more (d ∷ es) e = ap (λ (ms : Exprs). preceding d ms) (members_more es e) ∙ prefix_append d (members es) (preceding e nothing)

-- the members that choices give, with one choice more
pub more_joined : (cs : List Choice) (i : ℕ) (c : Choice) → i < length cs → c ≡ get_or cs i c →
    append (members (map (λ d. expr_of d) (map choice_view (take i cs)))) (preceding (expr_of (choice_view c)) nothing)
    ≡ members (map (λ d. expr_of d) (map choice_view (take (i + 1) cs)))
more_joined cs i c lt is = sym (
    ap (λ (xs : List Choice). members (map (λ d. expr_of d) (map choice_view xs)))
    (take_more cs i c lt ∙ ap (λ (d : Choice). take i cs ++ d ∷ []) (sym is))
    ∙ (ap (λ (xs : List plain.Choice). members (map (λ d. expr_of d) xs)) (map-append choice_view (take i cs) (c ∷ []))
    ∙ (ap members (map-append (λ (d : plain.Choice). expr_of d) (map choice_view (take i cs)) (choice_view c ∷ []))
    ∙ members_more (map (λ d. expr_of d) (map choice_view (take i cs))) (expr_of (choice_view c)))))

-- a member more, which is no `cat`
pub added_one : (old : Exprs) (copy v w : Expr) → copy ≡ v → v ≡ w → preceding w nothing ≡ member w nothing →
    append old (member copy nothing) ≡ append old (preceding v nothing)
added_one old copy v w made same prefix = ap (λ (ms : Exprs). append old ms)
    (ap (λ (e : Expr). member e nothing) (made ∙ same) ∙ (sym prefix ∙ ap (λ (e : Expr). preceding e nothing) (sym same)))

-- members more, for a `cat`
pub added_all : (old inner : Exprs) (v : Expr) → v ≡ cat inner → append old inner ≡ append old (preceding v nothing)
added_all old inner v same = ap (λ (ms : Exprs). append old ms)
    (sym (append_nothing inner) ∙ ap (λ (e : Expr). preceding e nothing) (sym same))

-- a `cat` of expressions and a run after them
pub joined_more : (es : List Expr) (old new : Exprs) (last : Expr) (c n : Number) → old ≡ members es →
    new ≡ append old (member last nothing) → last ≡ run c n → cat new ≡ cat (members (es ++ run c n ∷ []))
joined_more es old new last c n made added is = ap cat (
    added
    ∙ (ap (λ (ms : Exprs). append ms (member last nothing)) made
    ∙ (ap (λ (e : Expr). append (members es) (member e nothing)) is
    ∙ sym (members_more es (run c n)))))
