-- The choices for a line's operands, from left to right.
use Rattle.std.specs.Prelude.{◌≡◌, ◌+◌, ◌<◌, ◌∷◌, ◌++◌}
use Rattle.cord_plan.proofs.Common.{ℕ, Bool, List, [], map, drop, length, get_or, Option, Some, None, refl, sym, ap, ◌∙◌, at_drop_more}
use Rattle.cord_plan.proofs.Common.{Statement, Cat, Expr, name, read_by, Choice, named, ChoiceTable, expr_of, expr_with, setter, chosen_of}
use Rattle.cord_plan.proofs.Common.{choices, entry, operands_chosen, defining, simple_operands, Has, IsChoice}
use Rattle.cord_plan.specs.inner.Choices.{AreChoices}

-- a simple line reads its operands
pub simple_reads : (l : Statement) (xs : List (List ℕ)) → simple_operands l ≡ Some xs → read_by l ≡ xs
simple_reads (Cat line target left right) xs e = cc
simple_reads l xs e = cc

-- operands that stand for themselves
pub all_themselves : (xs : List (List ℕ)) → map (λ c. expr_of c) (map (λ x. named x) xs) ≡ map (λ x. name x) xs
all_themselves [] = refl
all_themselves (x ∷ xs) = ap (λ (es : List Expr). name x ∷ es) (all_themselves xs)

-- the expression of a simple line whose operands stand for themselves is its own
pub defining_named : (l : Statement) (xs : List (List ℕ)) (cs : List Choice) → simple_operands l ≡ Some xs → cs ≡ map (λ x. named x) xs →
    expr_with l (map (λ c. expr_of c) cs) ≡ defining l
defining_named l xs cs simple same =
    ap (λ (ds : List Choice). expr_with l (map (λ c. expr_of c) ds)) same
    ∙ (ap (λ (es : List Expr). expr_with l es) (all_themselves xs)
    ∙ ap (λ (ys : List (List ℕ)). expr_with l (map (λ x. name x) ys)) (sym (simple_reads l xs simple)))

module _ (s : List Statement) (later : List ℕ → ℕ → Bool) (t : ChoiceTable) (b : ℕ) (l : Statement) where
  -- a choice more, and an operand less
  pub more_chosen : (xs : List (List ℕ)) (done : List Choice) (c : Choice) (i : ℕ) (x : List ℕ) → i < length xs → x ≡ get_or xs i x →
      length done ≡ i →
      c ≡ chosen_of s later t b l x (map (λ d. expr_of d) done) (map (λ y. name y) (drop (length done + 1) xs)) (setter s x b) →
      choices s later t b l (done ++ c ∷ []) (drop (i + 1) xs) ≡ choices s later t b l done (drop i xs)
  more_chosen xs done c i x lt is size chosen = sym (
      at_drop_more (λ (ys : List (List ℕ)). choices s later t b l done ys) xs i x lt
      ∙ (ap (λ (y : List ℕ). choices s later t b l done (y ∷ drop (i + 1) xs)) (sym is)
      ∙ ap (λ (d : Choice). choices s later t b l (done ++ d ∷ []) (drop (i + 1) xs)) (here ∙ sym chosen)))
    where
      here : chosen_of s later t b l x (map (λ d. expr_of d) done) (map (λ y. name y) (drop (i + 1) xs)) (setter s x b)
          ≡ chosen_of s later t b l x (map (λ d. expr_of d) done) (map (λ y. name y) (drop (length done + 1) xs)) (setter s x b)
      here = ap (λ (n : ℕ). chosen_of s later t b l x (map (λ d. expr_of d) done) (map (λ y. name y) (drop (n + 1) xs)) (setter s x b))
          (sym size)

  -- the line's entry, by its operands
  abbrev pub entry_of : Option (List (List ℕ)) → Option Expr × List Choice
  entry_of None = (None, [])
  entry_of (Some xs) = entry s later l (choices s later t b l [] (read_by l))

pub chosen_simple : (s : List Statement) (later : List ℕ → ℕ → Bool) (t : ChoiceTable) (b : ℕ) (l : Statement) →
    operands_chosen s later t b l (defining l) ≡ entry_of s later t b l (simple_operands l)
chosen_simple s later t b (Cat line target left right) = refl
chosen_simple s later t b l = refl

-- the choices for the operands of a line that has few
module _ (s : List Statement) (later : List ℕ → ℕ → Bool) (table : List (Option Expr)) (b : ℕ) (l : Statement) where
  by_operands : (xs : List (List ℕ)) (cs : List Choice) → simple_operands l ≡ Some xs →
      ((t : ChoiceTable) → Has table t → cs ≡ choices s later t b l [] xs) → AreChoices s later b l table cs
  by_operands xs cs simple chosen = λ t has.
      chosen t has ∙ ap (λ (ys : List (List ℕ)). choices s later t b l [] ys) (sym (simple_reads l xs simple))

  pub none_chosen : simple_operands l ≡ Some [] → AreChoices s later b l table []
  none_chosen simple = by_operands [] [] simple (λ t has. refl)

  pub one_chosen : (x : List ℕ) (c : Choice) → simple_operands l ≡ Some (x ∷ []) → IsChoice s later b l (x ∷ []) x table [] c →
      AreChoices s later b l table (c ∷ [])
  one_chosen x c simple one = by_operands (x ∷ []) (c ∷ []) simple (λ t has. ap (λ (d : Choice). d ∷ []) (one t has))

  pub two_chosen : (x y : List ℕ) (c d : Choice) → simple_operands l ≡ Some (x ∷ y ∷ []) →
      IsChoice s later b l (x ∷ y ∷ []) x table [] c → IsChoice s later b l (x ∷ y ∷ []) y table (c ∷ []) d →
      AreChoices s later b l table (c ∷ d ∷ [])
  two_chosen x y c d simple one two = by_operands (x ∷ y ∷ []) (c ∷ d ∷ []) simple (λ t has.
      ap (λ (e : Choice). c ∷ e ∷ []) (two t has) ∙ ap (λ (e : Choice). choices s later t b l (e ∷ []) (y ∷ [])) (one t has))
