-- In a script that is read, a name that a line reads as a cord is nowhere the name of a number.
use Rattle.std.specs.Prelude.{◌≡◌, ◌⊎◌, ◌+◌, ◌∷◌, ◌++◌, if◌then◌else◌}
use Rattle.cord_plan.proofs.Common.{ℕ, zero, suc, Bool, true, false, List, [], Option, Some, None, sym, ap, ◌∙◌, subst, inl, inr, slice_get}
use Rattle.cord_plan.proofs.Common.{is_some, bytes_eq, Kind, Number, Numeral, Named, Known, Statement, Chars, Nul, Catc, Substr, Grammar}
use Rattle.cord_plan.proofs.Common.{Term, terms_of, Scope, kind_of, with_name, names_after, after_all, IsAllowed, AreAllowed, LinesSay}
use Rattle.cord_plan.proofs.Common.{start, Expr, number_names, has, numbers_named, or_cases}
use Rattle.cord_script.specs.declared.kinds.Kind.TheVariants as kinds
use Rattle.cord_script.specs.Forms.Term.{Target, Value}
use Rattle.cord_script.specs.Script.{after}
use Rattle.cord_plan.proofs.Named.{has_append, same_bytes}

-- what is known of names stays known
pub record Stays (old new : List Known) : Type 0 where
  pub kept : (y : List ℕ) (k : Kind) → kind_of old y ≡ Some k → kind_of new y ≡ Some k

kind_after : (names more : List Known) (y : List ℕ) (k : Kind) → kind_of names y ≡ Some k → kind_of (names ++ more) y ≡ Some k
kind_after [] more y k e = let bad : ⊥ = cc in absurd bad
kind_after (n ∷ names) more y k e = pick (bytes_eq n.name y) e (λ h. kind_after names more y k h)
  where
    pick : (v : Bool) → (if v then Some n.kind else kind_of names y) ≡ Some k →
        (kind_of names y ≡ Some k → kind_of (names ++ more) y ≡ Some k) → (if v then Some n.kind else kind_of (names ++ more) y) ≡ Some k
    pick true h others = h
    pick false h others = others h

name_stays : (names : List Known) (x : List ℕ) (j : Kind) → Stays names (with_name names x j)
name_stays names x j = record { kept = λ y k e. pick (is_some (kind_of names x)) y k e }
  where
    pick : (v : Bool) (y : List ℕ) (k : Kind) → kind_of names y ≡ Some k →
        kind_of (if v then names else names ++ record { name = x; kind = j } ∷ []) y ≡ Some k
    pick true y k e = e
    pick false y k e = kind_after names (record { name = x; kind = j } ∷ []) y k e

terms_stay : (ts : List Term) (names : List Known) → Stays names (names_after ts names)
terms_stay [] names = record { kept = λ y k e. e }
terms_stay (Target j x ∷ ts) names = record {
  kept = λ y k e. (terms_stay ts (with_name names x j)).kept y k
      ((name_stays names x j).kept y k e);
}
terms_stay (t ∷ ts) names = terms_stay ts names

lines_stay : (ss : List Statement) (scope : Scope) → Stays scope.names (after_all ss scope).names
lines_stay [] scope = record { kept = λ y k e. e }
lines_stay (s ∷ ss) scope =
    record { kept = λ y k e. (lines_stay ss (after s scope)).kept y k ((terms_stay (terms_of s) scope.names).kept y k e) }

-- what is known in front of a line, where the script is read on to these names
pub record HasScope (l : Statement) (last : List Known) : Type 0 where
  pub scope : Scope
  pub allowed : AreAllowed scope (terms_of l)
  pub stays : Stays scope.names last
  pub after_stays : Stays (names_after (terms_of l) scope.names) last

module _ (g : Grammar) where
  pub line_scope : (lines : List (List ℕ)) (n : ℕ) (scope : Scope) (ss : List Statement) (p : ℕ) (l : Statement) →
      LinesSay g n scope lines ss → slice_get ss p ≡ Some l → HasScope l (after_all ss scope).names
  line_scope [] n scope ss p l none e =
      let bad : ⊥ =
      (let gone : slice_get {X = Statement} [] p ≡ Some l = subst (λ (xs : List Statement). slice_get xs p ≡ Some l) none e in cc) in
      absurd bad
  line_scope (line ∷ lines) n scope ss p l (inl (idle, rest)) e = line_scope lines (n + 1) scope ss p l rest e
  line_scope (line ∷ lines) n scope ss p l (inr (busy, s, words, rest, is, has, says, others)) e =
      subst (λ (xs : List Statement). HasScope l (after_all xs scope).names) (sym is)
      (at p (subst (λ (xs : List Statement). slice_get xs p ≡ Some l) is e)
      (λ k h. line_scope lines (n + 1) (after s scope) rest k l others h))
    where
      at : (k : ℕ) → slice_get (s ∷ rest) k ≡ Some l → ((m : ℕ) → slice_get rest m ≡ Some l →
          HasScope l (after_all rest (after s scope)).names) → HasScope l (after_all (s ∷ rest) scope).names
      at zero h later =
          let same : s ≡ l = cc in
          subst (λ (x : Statement). HasScope x (after_all (s ∷ rest) scope).names) same
          (record {
            scope = scope;
            allowed = says.allowed;
            stays = lines_stay (s ∷ rest) scope;
            after_stays = lines_stay rest (after s scope);
          })
      at (suc k) h later = later k h

-- the names of number operands are names of numbers
number_known : (scope : Scope) (n : Number) (y : List ℕ) → IsAllowed scope (Value n) → has (number_names n) y ≡ true →
    kind_of scope.names y ≡ Some kinds.Number
number_known scope (Numeral z) y h e = let bad : ⊥ = cc in absurd bad
number_known scope (Named x) y h e = pick (or_cases (bytes_eq y x) false e)
  where
    pick : (bytes_eq y x ≡ true) ⊎ (false ≡ true) → kind_of scope.names y ≡ Some kinds.Number
    pick (inl f) = ap (λ (z : List ℕ). kind_of scope.names z) (same_bytes y x f) ∙ h
    pick (inr f) = let bad : ⊥ = cc in absurd bad

two_known : (scope : Scope) (n m : Number) (y : List ℕ) → IsAllowed scope (Value n) → IsAllowed scope (Value m) →
    has (number_names n ++ number_names m) y ≡ true → kind_of scope.names y ≡ Some kinds.Number
two_known scope n m y h k e = pick (has_append (number_names n) (number_names m) y e)
  where
    pick : (has (number_names n) y ≡ true) ⊎ (has (number_names m) y ≡ true) → kind_of scope.names y ≡ Some kinds.Number
    pick (inl f) = number_known scope n y h f
    pick (inr f) = number_known scope m y k f

pub numbers_known : (l : Statement) (scope : Scope) (y : List ℕ) → AreAllowed scope (terms_of l) → has (numbers_named l) y ≡ true →
    kind_of scope.names y ≡ Some kinds.Number
numbers_known (Chars line target byte n) scope y h e = two_known scope byte n y h.1.0 h.1.1.0 e
numbers_known (Nul line target n) scope y h e = number_known scope n y h.1.0 e
numbers_known (Catc line target operand byte) scope y h e = number_known scope byte y h.1.1.0 e
numbers_known (Substr line target operand start n) scope y h e = two_known scope start n y h.1.1.0 h.1.1.1.0 e
numbers_known l scope y h e = let bad : ⊥ = cc in absurd bad

abbrev pub HasDefining : Option Expr → Type 0
HasDefining None = ⊥
HasDefining (Some e) = Unit {0}
