-- What expressions name, and names in lists.
use Rattle.std.specs.Prelude.{◌≡◌, ◌⊎◌, ◌+◌, ◌<◌, ◌≤◌, ◌∷◌, ◌++◌, ◌||◌, if◌then◌else◌}
use Rattle.cord_plan.proofs.Common.{ℕ, zero, suc, pos, Bool, true, false, List, [], Option, Some, None, refl, sym, ap, ◌∙◌, subst}
use Rattle.cord_plan.proofs.Common.{inl, inr, arith, append-nil, slice_get, not, nat_le, bytes_eq, or_left, or_right}
use Rattle.cord_plan.proofs.Common.{leb-true, leb-false, bytes_eq-Decides, Numeral, Statement, Chars, Nul, Cat, Catn, Catc, Substr, Put}
use Rattle.cord_plan.proofs.Common.{Expr, run, cat, Exprs, preceding, members, names, number_names, count, has}
use Rattle.cord_plan.proofs.Common.{assigns_at, expr_with, each_from, preserves, numbers_named, not-true, or_cases, and_parts}
use Rattle.cord_plan.specs.Exprs.{names_of}
use Rattle.cord_plan.proofs.Appending.{names_append}
use Rattle.cord_plan.proofs.Chosen.{last_or}

pub same_bytes : (x y : List ℕ) → bytes_eq x y ≡ true → x ≡ y
same_bytes x y e = (bytes_eq-Decides x y).0 e

pub own_bytes : (x : List ℕ) → bytes_eq x x ≡ true
own_bytes x = (bytes_eq-Decides x x).1 refl

-- a name stands among the names of lists that are joined
pub has_both : (xs ys : List (List ℕ)) (x : List ℕ) → has (xs ++ ys) x ≡ (has xs x || has ys x)
has_both [] ys x = refl
has_both (y ∷ xs) ys x = by_name (bytes_eq x y) (has_both xs ys x)
  where
    by_name : (b : Bool) → has (xs ++ ys) x ≡ (has xs x || has ys x) → (b || has (xs ++ ys) x) ≡ ((b || has xs x) || has ys x)
    by_name true ih = refl
    by_name false ih = ih

pub has_append : (xs ys : List (List ℕ)) (y : List ℕ) → has (xs ++ ys) y ≡ true → (has xs y ≡ true) ⊎ (has ys y ≡ true)
has_append xs ys y e = or_cases (has xs y) (has ys y) (sym (has_both xs ys y) ∙ e)

pub has_at : (xs : List (List ℕ)) (k : ℕ) (x : List ℕ) → slice_get xs k ≡ Some x → has xs x ≡ true
has_at [] k x e = let bad : ⊥ = cc in absurd bad
has_at (y ∷ xs) zero x e =
    let same : y ≡ x = cc in
    or_left (bytes_eq x y) (has xs x) (ap (λ (z : List ℕ). bytes_eq x z) same ∙ own_bytes x)
has_at (y ∷ xs) (suc k) x e = or_right (bytes_eq x y) (has xs x) (has_at xs k x e)

-- a name that isn't y is none that is
not_here : (x y : List ℕ) → bytes_eq x y ≡ false → y ≡ x → ⊥
not_here x y f same =
    let is : bytes_eq x y ≡ true = ap (λ (z : List ℕ). bytes_eq x z) same ∙ own_bytes x in
    let bad : true ≡ false = sym is ∙ f in
    cc

-- a name that stands once stands at one place
none_at : (x : List ℕ) (xs : List (List ℕ)) (k : ℕ) → count x xs ≡ 0 → slice_get xs k ≡ Some x → ⊥
none_at x [] k none e = let bad : ⊥ = cc in bad
none_at x (y ∷ xs) k none e = pick (bytes_eq x y) refl k none e (λ m h g. none_at x xs m h g)
  where
    pick : (v : Bool) → bytes_eq x y ≡ v → (k : ℕ) → (if v then suc (count x xs) else count x xs) ≡ 0 → slice_get (y ∷ xs) k ≡ Some x →
        ((m : ℕ) → count x xs ≡ 0 → slice_get xs m ≡ Some x → ⊥) → ⊥
    pick true f k h g others = absurd (omega (arith, h))
    pick false f zero h g others = not_here x y f (let same : y ≡ x = cc in same)
    pick false f (suc k) h g others = others k h g

pub one_place : (x : List ℕ) (xs : List (List ℕ)) (i j : ℕ) → count x xs ≡ 1 → slice_get xs i ≡ Some x → slice_get xs j ≡ Some x → i ≡ j
one_place x [] i j one e f = let bad : ⊥ = cc in absurd bad
one_place x (y ∷ xs) i j one e f = pick (bytes_eq x y) refl i j one e f (λ k m h a b. one_place x xs k m h a b)
  where
    pick : (v : Bool) → bytes_eq x y ≡ v → (i j : ℕ) → (if v then suc (count x xs) else count x xs) ≡ 1 → slice_get (y ∷ xs) i ≡ Some x →
        slice_get (y ∷ xs) j ≡ Some x → ((k m : ℕ) → count x xs ≡ 1 → slice_get xs k ≡ Some x → slice_get xs m ≡ Some x → k ≡ m) → i ≡ j
    pick true g zero zero h a b others = refl
    pick true g (suc i) j h a b others = absurd (none_at x xs i (omega (arith, h)) a)
    pick true g zero (suc j) h a b others = absurd (none_at x xs j (omega (arith, h)) b)
    pick false g zero j h a b others = let same : y ≡ x = cc in absurd (not_here x y g same)
    pick false g (suc i) zero h a b others = let same : y ≡ x = cc in absurd (not_here x y g same)
    pick false g (suc i) (suc j) h a b others = ap suc (others i j h a b)

-- it holds of each of n places from a on
pub each_at : (holds : ℕ → Bool) (n a m : ℕ) → each_from holds n a ≡ true → a ≤ m → m < a + n → holds m ≡ true
each_at holds zero a m e low high = absurd (omega arith)
each_at holds (suc n) a m e low high = pick (nat_le m a) refl (λ above below.
    each_at holds n (a + 1) m (and_parts (holds a) (each_from holds n (a + 1)) e).1 above below)
  where
    pick : (v : Bool) → nat_le m a ≡ v → (a + 1 ≤ m → m < a + 1 + n → holds m ≡ true) → holds m ≡ true
    pick true f others =
        let below : m ≤ a = leb-true m a f in
        let same : a ≡ m = omega arith in
        ap holds (sym same) ∙ (and_parts (holds a) (each_from holds n (a + 1)) e).0
    pick false f others =
        let above : a < m = leb-false m a f in
        others (omega arith) (omega arith)

pub preserves_at : (l : Option Statement) (xs : List (List ℕ)) (y : List ℕ) → preserves l xs ≡ true → has xs y ≡ true →
    assigns_at l y ≡ false
preserves_at l [] y e h = let bad : ⊥ = cc in absurd bad
preserves_at l (x ∷ xs) y e h = elim (or_cases (bytes_eq y x) (has xs y) h) [
  | inl f ↦ ap (λ (z : List ℕ). assigns_at l z) (same_bytes y x f)
      ∙ not-true (assigns_at l x) (and_parts (not (assigns_at l x)) (preserves l xs) e).0
  | inr f ↦ preserves_at l xs y (and_parts (not (assigns_at l x)) (preserves l xs) e).1 f
]

-- the names of members are those of the expressions
pub prefix_names : (e : Expr) (others : Exprs) → names_of (preceding e others) ≡ names e ++ names_of others
prefix_names (cat es) others = names_append es others
prefix_names e others = refl

-- one of these expressions names it
pub record SomeNames (es : List Expr) (y : List ℕ) : Type 0 where
  pub place : ℕ
  pub expression : Expr
  pub is : slice_get es place ≡ Some expression
  pub names_it : has (names expression) y ≡ true

after_names : (e : Expr) (es : List Expr) (y : List ℕ) → SomeNames es y → SomeNames (e ∷ es) y
after_names e es y h = record { place = suc h.place; expression = h.expression; is = h.is; names_it = h.names_it }

members_name : (es : List Expr) (y : List ℕ) → has (names_of (members es)) y ≡ true → SomeNames es y
members_name [] y e = let bad : ⊥ = cc in absurd bad
members_name (f ∷ es) y e =
    elim (has_append (names f) (names_of (members es)) y (ap (λ (x : List (List ℕ)). has x y) (sym (prefix_names f (members es))) ∙ e)) [
      | inl h ↦ record { place = 0; expression = f; is = refl; names_it = h }
      | inr h ↦ after_names f es y (members_name es y h)
    ]

last_names : (es : List Expr) (f : Expr) (y : List ℕ) → SomeNames (es ++ f ∷ []) y → SomeNames es y ⊎ (has (names f) y ≡ true)
last_names es f y h = elim (last_or es f h.place h.expression h.is) [
  | inl e ↦ inl (record { place = h.place; expression = h.expression; is = e; names_it = h.names_it })
  | inr e ↦ inr (subst (λ (g : Expr). has (names g) y ≡ true) e.1 h.names_it)
]

-- what a line's expression names, an expression of an operand names, or it is the name of a number of the line
abbrev pub Names : Statement → List Expr → List ℕ → Option Expr → Type 0
Names l es y None = Unit {0}
Names l es y (Some e) = has (names e) y ≡ true → SomeNames es y ⊎ (has (numbers_named l) y ≡ true)

pub with_names : (l : Statement) (es : List Expr) (y : List ℕ) → Names l es y (expr_with l es)
with_names (Cat line target left right) es y = λ h. inl (members_name es y h)
with_names (Catn line target many) es y = λ h. inl (members_name es y h)
with_names (Catc line target operand byte) es y = λ h.
    elim (last_names es (run byte (Numeral (pos 1))) y (members_name (es ++ run byte (Numeral (pos 1)) ∷ []) y h)) [
      | inl e ↦ inl e
      | inr e ↦ inr (subst (λ (x : List (List ℕ)). has x y ≡ true) (append-nil (number_names byte)) e)
    ]
with_names (Chars line target byte n) es y = λ h. inr h
with_names (Nul line target n) es y = λ h. inr h
with_names (Substr line target operand start n) (e ∷ es) y = λ h. elim (has_append (names e) (number_names start ++ number_names n) y h) [
  | inl f ↦ inl (record { place = 0; expression = e; is = refl; names_it = f })
  | inr f ↦ inr f
]
with_names (Put line operand) (e ∷ es) y = λ h. inl (record { place = 0; expression = e; is = refl; names_it = h })
with_names l es y = tt
