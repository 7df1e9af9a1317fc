-- No `cat` is a member of a `cat` in the expressions of a plan.
use Rattle.std.specs.Prelude.{◌≡◌, ◌+◌, ◌∷◌, ◌++◌, if◌then◌else◌, ◌||◌, ◌&&◌}
use Rattle.cord_plan.proofs.Common.{ℕ, zero, suc, Bool, true, false, List, [], map, Option, Some, None, refl, subst, slice_get, pos}
use Rattle.cord_plan.proofs.Common.{Numeral, Statement, Chars, Nul, Cat, Catn, Catc, Substr, Put, Expr, name, run, cat, sub, Exprs, nothing}
use Rattle.cord_plan.proofs.Common.{member, append, preceding, members, read_by, target_of, ChoiceTable, Choice, named, replaced, expr_of}
use Rattle.cord_plan.proofs.Common.{expr_with, first_of, defining, setter, fits, is_small, chosen_from, chosen_of, choices, operands_chosen}
use Rattle.cord_plan.proofs.Common.{exprs, Operation, Joined, gives, or_nothing, operation, operations, is_dead, is_first}
use Rattle.cord_plan.specs.Flat.{IsFlat, AreMembers, IsFlatOperation}
use Rattle.cord_plan.proofs.Chosen.{each_entry}

append_flat : (es others : Exprs) → AreMembers es → AreMembers others → AreMembers (append es others)
append_flat nothing others a b = b
append_flat (member (cat fs) es) others a b = absurd a
append_flat (member (sub e i n) es) others a b = (a.0, append_flat es others a.1 b)
append_flat (member _ es) others a b = append_flat es others a b

preceding_flat : (e : Expr) (others : Exprs) → IsFlat e → AreMembers others → AreMembers (preceding e others)
preceding_flat (cat es) others a b = append_flat es others a b
preceding_flat (sub e i n) others a b = (a, b)
preceding_flat _ others a b = b

-- each of these expressions is flat
abbrev Each : List Expr → Type 0
Each [] = Unit {0}
Each (e ∷ es) = IsFlat e × Each es

members_flat : (es : List Expr) → Each es → AreMembers (members es)
members_flat [] a = tt
members_flat (e ∷ es) a = preceding_flat e (members es) a.0 (members_flat es a.1)

each_then : (es : List Expr) (e : Expr) → Each es → IsFlat e → Each (es ++ e ∷ [])
each_then [] e a b = (b, tt)
each_then (f ∷ es) e a b = (a.0, each_then es e a.1 b)

abbrev OptionFlat : Option Expr → Type 0
OptionFlat None = Unit {0}
OptionFlat (Some e) = IsFlat e

with_flat : (l : Statement) (es : List Expr) → Each es → OptionFlat (expr_with l es)
with_flat (Cat line target left right) es a = members_flat es a
with_flat (Catn line target many) es a = members_flat es a
with_flat (Catc line target operand byte) es a = members_flat (es ++ run byte (Numeral (pos 1)) ∷ [])
    (each_then es (run byte (Numeral (pos 1))) a tt)
with_flat (Substr line target operand start n) (e ∷ es) a = a.0
with_flat (Put line operand) (e ∷ es) a = a.0
with_flat _ es a = tt

-- each choice stands as a flat expression
abbrev EachChoice : List Choice → Type 0
EachChoice [] = Unit {0}
EachChoice (c ∷ cs) = IsFlat (expr_of c) × EachChoice cs

choices_then : (cs : List Choice) (c : Choice) → EachChoice cs → IsFlat (expr_of c) → EachChoice (cs ++ c ∷ [])
choices_then [] c a b = (b, tt)
choices_then (d ∷ cs) c a b = (a.0, choices_then cs c a.1 b)

choice_exprs : (cs : List Choice) → EachChoice cs → Each (map (λ c. expr_of c) cs)
choice_exprs [] a = tt
choice_exprs (c ∷ cs) a = (a.0, choice_exprs cs a.1)

abbrev EachEntry : ChoiceTable → Type 0
EachEntry table = (k : ℕ) → OptionFlat (first_of (slice_get table k))

by_place : (table : ChoiceTable) → ((k : ℕ) (en : Option Expr × List Choice) → slice_get table k ≡ Some en → OptionFlat en.0) →
    EachEntry table
by_place table each k = pick (slice_get table k) refl
  where
    pick : (o : Option (Option Expr × List Choice)) → slice_get table k ≡ o → OptionFlat (first_of o)
    pick None e = tt
    pick (Some en) e = each k en e

picked : (v : Bool) (k : ℕ) (e : Expr) (x : List ℕ) → IsFlat e → IsFlat (expr_of (if v then replaced k e else named x))
picked true k e x a = a
picked false k e x a = tt

module _ (s : List Statement) (later : List ℕ → ℕ → Bool) where
  from_flat : (b : ℕ) (l : Statement) (x : List ℕ) (before after : List Expr) (k : ℕ) (o : Option Expr) → OptionFlat o →
      IsFlat (expr_of (chosen_from s later b l x before after k o))
  from_flat b l x before after k None a = tt
  from_flat b l x before after k (Some e) a = picked (fits s later e k b l x && is_small (expr_with l (before ++ e ∷ after))) k e x a

  chosen_flat : (table : ChoiceTable) (b : ℕ) (l : Statement) (x : List ℕ) (before after : List Expr) (o : Option ℕ) → EachEntry table →
      IsFlat (expr_of (chosen_of s later table b l x before after o))
  chosen_flat table b l x before after None a = tt
  chosen_flat table b l x before after (Some k) a = from_flat b l x before after k (first_of (slice_get table k)) (a k)

  choices_flat : (table : ChoiceTable) (b : ℕ) (l : Statement) (done : List Choice) (xs : List (List ℕ)) → EachEntry table → EachChoice done →
      EachChoice (choices s later table b l done xs)
  choices_flat table b l done [] a d = d
  choices_flat table b l done (x ∷ xs) a d =
      let c : Choice = chosen_of s later table b l x (map (λ c. expr_of c) done) (map (λ y. name y) xs) (setter s x b) in
      choices_flat table b l (done ++ c ∷ []) xs a
      (choices_then done c d (chosen_flat table b l x (map (λ c. expr_of c) done) (map (λ y. name y) xs) (setter s x b) a))

  operands_flat : (table : ChoiceTable) (b : ℕ) (l : Statement) (o : Option Expr) → EachEntry table →
      OptionFlat (operands_chosen s later table b l o).0
  operands_flat table b l None a = tt
  operands_flat table b l (Some e) a = with_flat l (map (λ c. expr_of c) (choices s later table b l [] (read_by l)))
      (choice_exprs (choices s later table b l [] (read_by l)) (choices_flat table b l [] (read_by l) a tt))

  pub exprs_flat : EachEntry (exprs s later)
  exprs_flat = by_place (exprs s later) (each_entry s later (λ k en. OptionFlat en.0)
      (λ table b l at prefix each. operands_flat table b l (defining l) (by_place table each)))

or_flat : (o : Option Expr) → OptionFlat o → IsFlat (or_nothing o)
or_flat None a = tt
or_flat (Some e) a = a

gives_flat : (v : Bool) (line : ℕ) (x : List ℕ) (e : Expr) → IsFlat e → IsFlatOperation (gives v line x (Joined e))
gives_flat true line x e a = a
gives_flat false line x e a = a

operation_flat : (l : Statement) (e : Expr) (dead paired : Bool) → IsFlat e → IsFlatOperation (operation l e dead paired)
operation_flat (Cat line target left right) e dead paired a = gives_flat (dead || paired) line target e a
operation_flat (Catn line target many) e dead paired a = gives_flat (dead || paired) line target e a
operation_flat (Catc line target operand byte) e dead paired a = gives_flat (dead || paired) line target e a
operation_flat (Chars line target byte n) e dead paired a = gives_flat (dead || paired) line target e a
operation_flat (Nul line target n) e dead paired a = gives_flat (dead || paired) line target e a
operation_flat (Substr line target operand start n) e dead paired a = gives_flat (dead || paired) line target e a
operation_flat (Put line operand) e dead paired a = a
operation_flat l e true paired a = tt
operation_flat l e false paired a = tt

module _ (later : List ℕ → ℕ → Bool) (table : ChoiceTable) where
  pub operations_flat : (p : ℕ) (s : List Statement) (entries : ChoiceTable) → EachEntry entries → (k : ℕ) (o : Operation) →
      slice_get (operations later table p s entries) k ≡ Some o → IsFlatOperation o
  operations_flat p (l ∷ rest) (en ∷ entries) a zero o e =
      let same : operation l (or_nothing en.0) (is_dead later p (target_of l)) (is_first p table) ≡ o = cc in
      subst (λ (w : Operation). IsFlatOperation w) same (operation_flat l (or_nothing en.0) (is_dead later p (target_of l))
      (is_first p table) (or_flat en.0 (a 0)))
  operations_flat p (l ∷ rest) (en ∷ entries) a (suc k) o e = operations_flat (p + 1) rest entries (λ m. a (suc m)) k o e
  operations_flat p _ _ a k o e = let bad : ⊥ = cc in absurd bad
