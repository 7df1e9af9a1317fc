-- Members after others.
use Rattle.std.specs.Prelude.{◌≡◌, ◌+◌, ◌∷◌, ◌++◌}
use Rattle.cord_plan.proofs.Common.{ℕ, List, [], map, refl, sym, ap, ◌∙◌, append_assoc, arith, map-append, Expr, Exprs, nothing, member}
use Rattle.cord_plan.proofs.Common.{append, names, parts_of, Shared, members_of, shared_view}
use Rattle.cord_plan.specs.Exprs.{names_of}

pub append_thrice : (a b c : Exprs) → append (append a b) c ≡ append a (append b c)
append_thrice nothing b c = refl
append_thrice (member e a) b c = ap (λ (es : Exprs). member e es) (append_thrice a b c)

pub append_nothing : (a : Exprs) → append a nothing ≡ a
append_nothing nothing = refl
append_nothing (member e a) = ap (λ (es : Exprs). member e es) (append_nothing a)

pub members_of_both : (xs ys : List Expr) → members_of (xs ++ ys) ≡ append (members_of xs) (members_of ys)
members_of_both [] ys = refl
members_of_both (x ∷ xs) ys = ap (λ (ms : Exprs). member x ms) (members_of_both xs ys)

-- the same of members of the program
pub views_both : (xs ys : List Shared) → members_of (map shared_view (xs ++ ys))
    ≡ append (members_of (map shared_view xs)) (members_of (map shared_view ys))
views_both xs ys = ap members_of (map-append shared_view xs ys) ∙ members_of_both (map shared_view xs) (map shared_view ys)

-- their parts and their names
pub parts_append : (a b : Exprs) → parts_of (append a b) ≡ parts_of a + parts_of b
parts_append nothing b = omega arith
parts_append (member e a) b = let more : parts_of (append a b) ≡ parts_of a + parts_of b = parts_append a b in omega arith

pub names_append : (a b : Exprs) → names_of (append a b) ≡ names_of a ++ names_of b
names_append nothing b = refl
names_append (member e a) b = ap (λ (xs : List (List ℕ)). names e ++ xs) (names_append a b)
    ∙ sym (append_assoc (names e) (names_of a) (names_of b))
