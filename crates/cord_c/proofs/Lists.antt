-- Lists whose elements are read one by one.
use Rattle.std.proofs.Common.{◌≡◌, ◌<◌, ◌+◌, ◌++◌, ◌∷◌, [], ℕ, List, map, take, get_or, length, sym, ap, ◌∙◌, subst}
use Rattle.std.proofs.lemmas.List.{take_more, get_or-map, length-map}

-- what the element at the next place has, is one more of what all have
pub one_more : {A B : Type 0} (f : A → B) (xs : List A) (all made : List B) (i : ℕ) (x : A) (y : B) → i < length xs → map f xs ≡ all →
    y ≡ f (get_or xs i x) → made ≡ take i all → made ++ y ∷ [] ≡ take (i + 1) all
one_more f xs all made i x y inside same has so =
    let within : i < length (map f xs) = subst (λ n. i < n) (sym (length-map xs f)) inside in
    let here : get_or (map f xs) i y ≡ y = get_or-map f xs i x y inside ∙ sym has in
    let more : take (i + 1) (map f xs) ≡ take i (map f xs) ++ y ∷ [] =
    take_more (map f xs) i y within ∙ ap (λ z. take i (map f xs) ++ z ∷ []) here in
    ap (λ ys. ys ++ y ∷ []) (so ∙ ap (take i) (sym same)) ∙ sym more ∙ ap (take (i + 1)) same
