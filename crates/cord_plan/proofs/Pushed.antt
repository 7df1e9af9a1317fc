-- Lists that a loop fills, one item after the other.
use Rattle.std.specs.Prelude.{◌≡◌, ◌+◌, ◌<◌, ◌∷◌, ◌++◌}
use Rattle.cord_plan.proofs.Common.{ℕ, zero, suc, List, [], map, take, length, get_or, Some, refl, sym, ap, ◌∙◌, length-append, below_more}
use Rattle.cord_plan.proofs.Common.{map-append, take_more, slice_get}

-- one item more, made of the next one of another list
pub made_more : {A B C : Type 0} (f : A → C) (g : B → C) (xs : List B) (old new : List A) (made : A) (i : ℕ) (x : B) → i < length xs →
    x ≡ get_or xs i x →
    map f old ≡ map g (take i xs) → new ≡ old ++ made ∷ [] → f made ≡ g x → map f new ≡ map g (take (i + 1) xs)
made_more {A} {B} {C} f g xs old new made i x lt is so_far items same =
    ap (λ (ys : List A). map f ys) items
    ∙ (map-append f old (made ∷ [])
    ∙ (ap (λ (zs : List C). zs ++ f made ∷ []) so_far
    ∙ (ap (λ (z : C). map g (take i xs) ++ z ∷ []) same
    ∙ sym (ap (λ (ys : List B). map g ys) (take_more xs i x lt ∙ ap (λ (y : B). take i xs ++ y ∷ []) (sym is))
    ∙ map-append g (take i xs) (x ∷ [])))))

-- an element before others, and the last one
pub get_before : {A : Type 0} (xs ys : List A) (k : ℕ) (x : A) → slice_get xs k ≡ Some x → slice_get (xs ++ ys) k ≡ Some x
get_before [] ys k x e = let bad : ⊥ = cc in absurd bad
get_before (z ∷ xs) ys zero x e = e
get_before (z ∷ xs) ys (suc k) x e = get_before xs ys k x e

pub get_last : {A : Type 0} (xs : List A) (last : A) → slice_get (xs ++ last ∷ []) (length xs) ≡ Some last
get_last [] last = refl
get_last (z ∷ xs) last = get_last xs last

-- one item more, reported by its place
pub reported_more : {A : Type 0} (f : ℕ → A) (old new : List A) (made : A) (n : ℕ) → new ≡ old ++ made ∷ [] → length old ≡ n → made ≡ f n →
    ((k : ℕ) → k < n → slice_get old k ≡ Some (f k)) → (k : ℕ) → k < n + 1 → slice_get new k ≡ Some (f k)
reported_more {A} f old new made n items size is before =
    rw items (below_more (λ k. slice_get (old ++ made ∷ []) k ≡ Some (f k)) n (λ k lt. get_before old (made ∷ []) k (f k) (before k lt))
    (ap (λ (m : ℕ). slice_get (old ++ made ∷ []) m) (sym size) ∙ (get_last old made ∙ ap (λ (a : A). Some a) is)))

-- and how many there are then
pub size_more : {A : Type 0} (old new : List A) (made : A) (n : ℕ) → new ≡ old ++ made ∷ [] → length old ≡ n → length new ≡ n + 1
size_more {A} old new made n items size = ap (λ (xs : List A). length xs) items
    ∙ (length-append old (made ∷ []) ∙ ap (λ (m : ℕ). m + 1) size)
