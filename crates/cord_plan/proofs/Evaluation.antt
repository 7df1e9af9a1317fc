-- Values of expressions: which names they depend on, and what a line does by the value of its expression.
use Rattle.std.specs.Prelude.{◌≡◌, ◌⊎◌, ◌∷◌, ◌++◌}
use Rattle.cord_plan.proofs.Common.{ℕ, List, [], length, map, Option, Some, Result, Ok, Err, refl, sym, ap, ◌∙◌, subst, inl, inr, ⊎_elim}
use Rattle.cord_plan.proofs.Common.{FileSystem, Number, Numeral, Named, Statement, FromFn, FaultKind, State, number_value, and_then}
use Rattle.cord_plan.proofs.Common.{as_index, as_length, sets_text, act, function_text, Expr, name, run, cat, sub, Exprs, nothing, member}
use Rattle.cord_plan.proofs.Common.{names, number_names, read_by, target_of, expr_with, defining, within, copies, part_of, values, measured}
use Rattle.cord_plan.proofs.Common.{length_of, text_in, gives_text, HaveTexts, OfFunction, Holding, plain, held_length, cords, cords_of}
use Rattle.cord_plan.proofs.Common.{extent, made_text}
use Rattle.cord_operands.specs.declared.operands.Function.{Function}
use Rattle.cord_plan.specs.Exprs.{names_of}
use Rattle.cord_plan.proofs.Values.{measure_is}
use Rattle.cord_plan.proofs.Flattening.{MeanSame, replaced_means}
use Rattle.cord_plan.proofs.DefiningExpressions.{Means, defining_means, sets_within}

-- ---- what a simple line does, by the value of its defining expression, where its operands stand as expressions of their texts
module _ (limit : ℕ) (files : FileSystem) (s : State) (l : Statement) (es : List Expr) (e o : Expr)
    (stand : HaveTexts limit s es (map s.texts (read_by l))) (is : expr_with l es ≡ Some e) (defining_is : defining l ≡ Some o) where
  same_defining : text_in limit s e ≡ text_in limit s o
  same_defining = subst (λ (q : Option Expr). MeanSame limit s (Some e) q) defining_is
      (subst (λ (q : Option Expr). MeanSame limit s q (defining l)) is (replaced_means limit s l es stand))

  means_defining : (target : Option (List ℕ)) → target_of l ≡ target → Means limit s files l (Some o) target
  means_defining target to = subst (λ (t : Option (List ℕ)). Means limit s files l (Some o) t) to
      (subst (λ (q : Option Expr). Means limit s files l q (target_of l)) defining_is (defining_means limit s files l))

  pub line_gives : (z : List ℕ) → target_of l ≡ Some z → act limit files l s ≡ gives_text s z (text_in limit s e)
  line_gives z to = means_defining (Some z) to ∙ ap (λ (r : Result (List ℕ) FaultKind). gives_text s z r) (sym same_defining)

-- ---- what another line does that gives a text to a name
module _ (limit : ℕ) (s : State) (z : List ℕ) where
  pub gives_after : (r : Result (List ℕ) FaultKind) → and_then r (λ t. sets_text limit s z t)
      ≡ gives_text s z (and_then r (λ t. within limit t))
  gives_after (Ok t) = sets_within limit s z t
  gives_after (Err kind) = refl

  pub function_gives : (files : FileSystem) (line : ℕ) (function : Function) (n : Number) →
      act limit files (FromFn line z function n) s ≡ gives_text s z (made_text limit files (OfFunction function n) s)
  function_gives files line function n = by_checks (as_index (number_value s n))
    where
      by_length : (k : ℕ) (r : Result ℕ FaultKind) → and_then r (λ _. sets_text limit s z (function_text function k))
          ≡ gives_text s z (and_then r (λ _. within limit (function_text function k)))
      by_length k (Ok m) = sets_within limit s z (function_text function k)
      by_length k (Err kind) = refl

      by_checks : (r : Result ℕ FaultKind) →
          and_then r (λ k. and_then (as_length limit k) (λ _. sets_text limit s z (function_text function k)))
          ≡ gives_text s z (and_then r (λ k. and_then (as_length limit k) (λ _. within limit (function_text function k))))
      by_checks (Ok k) = by_length k (as_length limit k)
      by_checks (Err kind) = refl

-- ---- the same names have the same value
abbrev pub In : List ℕ → List (List ℕ) → Type 0
In x [] = ⊥
In x (y ∷ ys) = (x ≡ y) ⊎ In x ys

pub in_left : (x : List ℕ) (xs ys : List (List ℕ)) → In x xs → In x (xs ++ ys)
in_left x [] ys i = absurd i
in_left x (z ∷ xs) ys (inl e) = inl e
in_left x (z ∷ xs) ys (inr i) = inr (in_left x xs ys i)

pub in_right : (x : List ℕ) (xs ys : List (List ℕ)) → In x ys → In x (xs ++ ys)
in_right x [] ys i = i
in_right x (z ∷ xs) ys i = inr (in_right x xs ys i)

pub in_either : (x : List ℕ) (xs ys : List (List ℕ)) → In x (xs ++ ys) → In x xs ⊎ In x ys
in_either x [] ys i = inr i
in_either x (z ∷ xs) ys (inl e) = inl (inl e)
in_either x (z ∷ xs) ys (inr i) = ⊎_elim (λ (m : In x xs). inl (inr m)) (λ (m : In x ys). inr m) (in_either x xs ys i)

-- the names of cords of an expression are among its names
mutual
  pub cords_named : (e : Expr) (y : List ℕ) → In y (cords e) → In y (names e)
  cords_named (name x) y i = i
  cords_named (run c n) y i = absurd i
  cords_named (cat es) y i = cords_of_named es y i
  cords_named (sub e j n) y i = in_left y (names e) (number_names j ++ number_names n) (cords_named e y i)

  cords_of_named : (es : Exprs) (y : List ℕ) → In y (cords_of es) → In y (names_of es)
  cords_of_named nothing y i = i
  cords_of_named (member e es) y i = ⊎_elim (λ (m : In y (cords e)). in_left y (names e) (names_of es) (cords_named e y m))
      (λ (m : In y (cords_of es)). in_right y (names e) (names_of es) (cords_of_named es y m)) (in_either y (cords e) (cords_of es) i)

module _ (limit : ℕ) (s t : State) where
  number_same : (n : Number) → ((y : List ℕ) → In y (number_names n) → s.numbers y ≡ t.numbers y) → number_value s n ≡ number_value t n
  number_same (Numeral z) g = refl
  number_same (Named x) g = g x (inl refl)

  mutual
    pub value_same : (e : Expr) → ((y : List ℕ) → In y (cords e) → s.texts y ≡ t.texts y) →
        ((y : List ℕ) → In y (names e) → s.numbers y ≡ t.numbers y) → text_in limit s e ≡ text_in limit t e
    value_same (name x) f g = ap (λ (u : List ℕ). Ok u) (f x (inl refl))
    value_same (run c n) f g = λ i. copies limit (number_same c (λ y m. g y (in_left y (number_names c) (number_names n) m)) i)
        (number_same n (λ y m. g y (in_right y (number_names c) (number_names n) m)) i)
    value_same (cat es) f g = ap (λ (r : Result (List ℕ) FaultKind). and_then r (λ text. within limit text)) (values_same es f g)
    value_same (sub e j n) f g =
        λ i. and_then (value_same e f (λ y m. g y (in_left y (names e) (number_names j ++ number_names n) m)) i)
        (λ u. part_of limit u (number_same j
        (λ y m. g y (in_right y (names e) (number_names j ++ number_names n) (in_left y (number_names j) (number_names n) m))) i)
        (number_same n (λ y m. g y (in_right y (names e) (number_names j ++ number_names n)
        (in_right y (number_names j) (number_names n) m))) i))

    values_same : (es : Exprs) → ((y : List ℕ) → In y (cords_of es) → s.texts y ≡ t.texts y) →
        ((y : List ℕ) → In y (names_of es) → s.numbers y ≡ t.numbers y) → values limit s.texts (λ n. number_value s n) es
        ≡ values limit t.texts (λ n. number_value t n) es
    values_same nothing f g = refl
    values_same (member e es) f g =
        λ i. and_then (value_same e (λ y m. f y (in_left y (cords e) (cords_of es) m)) (λ y m. g y (in_left y (names e) (names_of es) m))
        i) (λ a. and_then (values_same es (λ y m. f y (in_right y (cords e) (cords_of es) m))
        (λ y m. g y (in_right y (names e) (names_of es) m)) i) (λ b. Ok (a ++ b)))

-- ---- by lengths
-- the same numbers stand after number operands
pub plain_number : (h : Holding) (s : State) → h.numbers ≡ s.numbers → (n : Number) → number_value (plain h) n ≡ number_value s n
plain_number h s numbers (Numeral z) = refl
plain_number h s numbers (Named x) = λ i. numbers i x

-- an expression has the length of its text, where names have the lengths of theirs
pub extent_is : (limit : ℕ) (h : Holding) (s : State) → h.numbers ≡ s.numbers →
    ((y : List ℕ) → held_length (h.held y) ≡ length (s.texts y)) → (e : Expr) → extent limit e h ≡ length_of (text_in limit s e)
extent_is limit h s numbers lengths e =
    (λ i. measured limit (λ x. lengths x i) (λ n. plain_number h s numbers n i) e) ∙ measure_is limit s.texts (λ n. number_value s n) e
