-- Members that share others.
use Rattle.std.specs.Prelude.{◌≡◌, ◌<◌, ◌+◌, ◌∷◌, ◌++◌}
use Rattle.cord_plan.proofs.Common.{ℕ, true, List, [], length, get_or, take, map, Some, Global, refl, sym, ap, ◌∙◌, subst, IfOk, Result, Rc}
use Rattle.cord_plan.proofs.Common.{take_more, Expr, Exprs, nothing, member, append, is_nothing, Shared, expr_view, members_of}
use Rattle.cord_plan.proofs.Common.{members_view, shared_view, rest_view, out-Members, roll-Members, Members, Rest, Nothing, One, Single}
use Rattle.cord_plan.proofs.Appending.{append_nothing, append_thrice, views_both}
use Rattle.cord_plan.proofs.ExprViews.{prefix_seen, members_made, members_there, view-Nothing, view-One}

-- what is made, reported by other words
pub made_as : {E : Type 0} (r : Result Members E) (es fs : Exprs) → es ≡ fs → IfOk r (λ ms. members_view ms ≡ es) →
    IfOk r (λ ms. members_view ms ≡ fs)
made_as r es fs same made = subst (λ (gs : Exprs). IfOk r (λ ms. members_view ms ≡ gs)) same made

-- members in front of none
pub full_made : (prefix : Rc Members Global) → members_view (roll-Members (record { prefix = Some prefix; rest = Nothing }))
    ≡ members_view prefix.value
full_made prefix =
    members_made (Some prefix) Nothing
    ∙ (ap (λ (es : List Expr). append (members_view prefix.value) (members_of es)) view-Nothing ∙ append_nothing
    (members_view prefix.value))

-- members whose prefix stays
rest_more : (ms : Members) (rest : Rest) (more : Exprs) →
    members_of (rest_view rest) ≡ append (members_of (rest_view (out-Members ms).rest)) more →
    members_view (roll-Members (record { prefix = (out-Members ms).prefix; rest = rest })) ≡ append (members_view ms) more
rest_more ms rest more e =
    let prefix = prefix_seen (out-Members ms).prefix in
    let old = members_of (rest_view (out-Members ms).rest) in
    members_made (out-Members ms).prefix rest
    ∙ (ap (λ (es : Exprs). append prefix es) e
    ∙ (sym (append_thrice prefix old more) ∙ ap (λ (es : Exprs). append es more) (sym (members_there ms))))

-- one more after none, and after one
pub first_more : (ms : Members) (rest : Rest) (last : Shared) → (out-Members ms).rest ≡ Nothing → rest_view rest ≡ shared_view last ∷ [] →
    members_view (roll-Members (record { prefix = (out-Members ms).prefix; rest = rest }))
    ≡ append (members_view ms) (member (shared_view last) nothing)
first_more ms rest last none made = rest_more ms rest (member (shared_view last) nothing) (
    ap members_of made
    ∙ ap (λ (es : List Expr). append (members_of es) (member (shared_view last) nothing)) (sym (ap rest_view none ∙ view-Nothing)))

pub second_more : (ms : Members) (one : Single) (rest : Rest) (first last : Shared) → (out-Members ms).rest ≡ One one →
    map shared_view one.members ≡ shared_view first ∷ [] → rest_view rest ≡ shared_view first ∷ shared_view last ∷ [] →
    members_view (roll-Members (record { prefix = (out-Members ms).prefix; rest = rest }))
    ≡ append (members_view ms) (member (shared_view last) nothing)
second_more ms one rest first last is there made = rest_more ms rest (member (shared_view last) nothing) (
    ap members_of made
    ∙ ap (λ (es : List Expr). append (members_of es) (member (shared_view last) nothing))
    (sym (ap rest_view is ∙ (view-One one ∙ there))))

-- one of others more
pub each_more : (before : Exprs) (all : List Shared) (i : ℕ) (m copy : Shared) → i < length all → m ≡ get_or all i m →
    copy.value ≡ m.value → append (append before (members_of (map shared_view (take i all)))) (member (shared_view copy) nothing)
    ≡ append before (members_of (map shared_view (take (i + 1) all)))
each_more before all i m copy lt is same =
    append_thrice before (members_of (map shared_view (take i all))) (member (shared_view copy) nothing)
    ∙ ap (λ (es : Exprs). append before es) (
    ap (λ (s : Expr). append (members_of (map shared_view (take i all))) (member s nothing)) shared
    ∙ (sym (views_both (take i all) (m ∷ []))
    ∙ ap (λ (ms : List Shared). members_of (map shared_view ms))
    (sym (take_more all i m lt ∙ ap (λ (x : Shared). take i all ++ x ∷ []) (sym is)))))
  where
    shared : shared_view copy ≡ shared_view m
    shared = ap expr_view same

pub nothing_is : (es : Exprs) → is_nothing es ≡ true → es ≡ nothing
nothing_is nothing e = refl
nothing_is (member f es) e = let bad : ⊥ = cc in absurd bad
