-- In a script that is read, a name that a line assigns as a number or an extensible cord is read by no line as a cord.
use Rattle.std.specs.Prelude.{◌≡◌, ◌⊎◌, ◌<◌, ◌&&◌, ◌∷◌, ◌++◌, if◌then◌else◌}
use Rattle.cord_plan.proofs.Common.{ℕ, Bool, true, false, List, [], map, length, Option, Some, None, refl, sym, ap, ◌∙◌, inl, inr}
use Rattle.cord_plan.proofs.Common.{slice_get, not, is_some, bytes_eq, bytes_eq-Decides, Kind, Argument, Known, Statement, Cat, Catn, Catc}
use Rattle.cord_plan.proofs.Common.{Substr, Balance, Sprintf, Len, Fetch, Cmp, Ncmp, Str, Chr, Rchr, Assign, Add, Sub, EcInit, EcCat, Put}
use Rattle.cord_plan.proofs.Common.{Grammar, terms_of, argument_term, Scope, kind_of, with_name, names_after, after_all, AreAllowed}
use Rattle.cord_plan.proofs.Common.{ReadsBy, start, has, read_by, cord_arguments, assigns, reads_at, makes_cord, assigns_other_at, HasKinds}
use Rattle.cord_plan.proofs.Common.{numbers_named, numbers_named_at, IsNoNumber, or_cases, false_from_ne_true}
use Rattle.cord_script.specs.declared.TheConstants.{MAX_NAMES}
use Rattle.cord_script.specs.declared.kinds.Kind.TheVariants as kinds
use Rattle.cord_operands.specs.declared.operands.Argument.TheVariants as arguments
use Rattle.cord_script.specs.Forms.Term.{Operand}
use Rattle.cord_plan.proofs.Named.{has_at}
use Rattle.cord_plan.proofs.ReadNames.{HasScope, line_scope, numbers_known}

-- a name that stands after others, and not among them, has its kind
kind_last : (names : List Known) (x : List ℕ) (k : Kind) → kind_of names x ≡ None → kind_of (names ++ record { name = x; kind = k } ∷ []) x
    ≡ Some k
kind_last [] x k e = ap (λ (v : Bool). if v then Some k else None) ((bytes_eq-Decides x x).1 refl)
kind_last (n ∷ names) x k e = pick (λ h. kind_last names x k h) (bytes_eq n.name x) e
  where
    pick : (kind_of names x ≡ None → kind_of (names ++ record { name = x; kind = k } ∷ []) x ≡ Some k) → (v : Bool) →
        (if v then Some n.kind else kind_of names x) ≡ None →
        (if v then Some n.kind else kind_of (names ++ record { name = x; kind = k } ∷ []) x) ≡ Some k
    pick rest true h = let bad : ⊥ = cc in absurd bad
    pick rest false h = rest h

-- an assigned name has the kind of its assignment
kind_assigned : (names : List Known) (x : List ℕ) (k : Kind) → (kind_of names x ≡ Some k) ⊎
    ((kind_of names x ≡ None) × (length names < MAX_NAMES)) → kind_of (with_name names x k) x ≡ Some k
kind_assigned names x k (inl e) =
    ap (λ (o : Option Kind). kind_of (if is_some o then names else names ++ record { name = x; kind = k } ∷ []) x) e ∙ e
kind_assigned names x k (inr e) =
    ap (λ (o : Option Kind). kind_of (if is_some o then names else names ++ record { name = x; kind = k } ∷ []) x) e.0
    ∙ kind_last names x k e.0

abbrev IsOther : List Known → List ℕ → Type 0
IsOther names x = (kind_of names x ≡ Some kinds.Number) ⊎ (kind_of names x ≡ Some kinds.Extensible)

module _ (scope : Scope) (x : List ℕ) where
  number_assigned : (target : List ℕ) → (kind_of scope.names target ≡ Some kinds.Number) ⊎
      ((kind_of scope.names target ≡ None) × (length scope.names < MAX_NAMES)) → bytes_eq x target ≡ true →
      IsOther (with_name scope.names target kinds.Number) x
  number_assigned target h e = inl (ap (λ (y : List ℕ). kind_of (with_name scope.names target kinds.Number) y)
      ((bytes_eq-Decides x target).0 e) ∙ kind_assigned scope.names target kinds.Number h)

  -- the target of a line that makes no cord is a number or an extensible cord after it
  other_assigned : (l : Statement) → AreAllowed scope (terms_of l) → (not (makes_cord l) && assigns l x) ≡ true →
      IsOther (names_after (terms_of l) scope.names) x
  other_assigned (Len line target operand) h e = number_assigned target h.0 e
  other_assigned (Fetch line target operand index) h e = number_assigned target h.0 e
  other_assigned (Cmp line target left right) h e = number_assigned target h.0 e
  other_assigned (Ncmp line target left left_start right right_start count) h e = number_assigned target h.0 e
  other_assigned (Str line target operand begin pattern) h e = number_assigned target h.0 e
  other_assigned (Chr line target operand begin byte) h e = number_assigned target h.0 e
  other_assigned (Rchr line target operand begin byte) h e = number_assigned target h.0 e
  other_assigned (Assign line target value) h e = number_assigned target h.0 e
  other_assigned (Add line target left right) h e = number_assigned target h.0 e
  other_assigned (Sub line target left right) h e = number_assigned target h.0 e
  other_assigned (EcInit line target) h e = inr (ap (λ (y : List ℕ). kind_of (with_name scope.names target kinds.Extensible) y)
      ((bytes_eq-Decides x target).0 e) ∙ kind_assigned scope.names target kinds.Extensible h.0)
  other_assigned l h e = let bad : ⊥ = cc in absurd bad

  abbrev IsCord : Type 0
  IsCord = kind_of scope.names x ≡ Some kinds.Cord

  cord_known : (xs : List (List ℕ)) → AreAllowed scope (map (Operand kinds.Cord) xs) → has xs x ≡ true → IsCord
  cord_known [] h e = let bad : ⊥ = cc in absurd bad
  cord_known (y ∷ xs) h e = elim (or_cases (bytes_eq x y) (has xs x) e) [
    | inl r ↦ ap (λ (z : List ℕ). kind_of scope.names z) ((bytes_eq-Decides x y).0 r) ∙ h.0
    | inr r ↦ cord_known xs h.1 r
  ]

  argument_known : (args : List Argument) → AreAllowed scope (map argument_term args) → has (cord_arguments args) x ≡ true → IsCord
  argument_known [] h e = let bad : ⊥ = cc in absurd bad
  argument_known (arguments.Number n ∷ args) h e = argument_known args h.1 e
  argument_known (arguments.Cord y ∷ args) h e = elim (or_cases (bytes_eq x y) (has (cord_arguments args) x) e) [
    | inl r ↦ ap (λ (z : List ℕ). kind_of scope.names z) ((bytes_eq-Decides x y).0 r) ∙ h.0
    | inr r ↦ argument_known args h.1 r
  ]

  -- what a line reads is a cord
  read_known : (l : Statement) → AreAllowed scope (terms_of l) → has (read_by l) x ≡ true → IsCord
  read_known (Cat line target left right) h e = cord_known (left ∷ right ∷ []) (h.1.0, (h.1.1.0, tt)) e
  read_known (Catn line target parts) h e = cord_known parts h.1 e
  read_known (Catc line target operand byte) h e = cord_known (operand ∷ []) (h.1.0, tt) e
  read_known (Substr line target operand begin count) h e = cord_known (operand ∷ []) (h.1.0, tt) e
  read_known (Balance line target operand) h e = cord_known (operand ∷ []) (h.1.0, tt) e
  read_known (Sprintf line target text format args) h e = argument_known args h.1.1 e
  read_known (Fetch line target operand index) h e = cord_known (operand ∷ []) (h.1.0, tt) e
  read_known (Cmp line target left right) h e = cord_known (left ∷ right ∷ []) (h.1.0, (h.1.1.0, tt)) e
  read_known (Ncmp line target left left_start right right_start count) h e = cord_known (left ∷ right ∷ []) (h.1.0, (h.1.1.1.0, tt)) e
  read_known (Str line target operand begin pattern) h e = cord_known (operand ∷ pattern ∷ []) (h.1.0, (h.1.1.1.0, tt)) e
  read_known (Chr line target operand begin byte) h e = cord_known (operand ∷ []) (h.1.0, tt) e
  read_known (Rchr line target operand begin byte) h e = cord_known (operand ∷ []) (h.1.0, tt) e
  read_known (EcCat line extensible operand) h e = cord_known (operand ∷ []) (h.1.0, tt) e
  read_known (Put line operand) h e = cord_known (operand ∷ []) (h.0, tt) e
  read_known l h e = let bad : ⊥ = cc in absurd bad

pub read_kinds : (g : Grammar) (b : List ℕ) (s : List Statement) → ReadsBy g b s → HasKinds s
read_kinds g b s read p q x assigned = false_from_ne_true (reads_at (slice_get s q) x)
    (λ reads. clash (slice_get s p) refl assigned (slice_get s q) refl reads)
  where
    last : List Known
    last = (after_all s start).names

    apart : IsOther last x → kind_of last x ≡ Some kinds.Cord → ⊥
    apart (inl e) f = let bad : Some kinds.Number ≡ Some kinds.Cord = sym e ∙ f in cc
    apart (inr e) f = let bad : Some kinds.Extensible ≡ Some kinds.Cord = sym e ∙ f in cc

    clash : (o : Option Statement) → slice_get s p ≡ o → assigns_other_at o x ≡ true → (u : Option Statement) → slice_get s q ≡ u →
        reads_at u x ≡ true → ⊥
    clash None e f u here r = let bad : ⊥ = cc in bad
    clash (Some l) e f None here r = let bad : ⊥ = cc in bad
    clash (Some l) e f (Some m) here r =
        let one : HasScope l last = line_scope g read.lines 1 start s p l read.say e in
        let two : HasScope m last = line_scope g read.lines 1 start s q m read.say here in
        apart (on (names_after (terms_of l) one.scope.names) one.after_stays.kept (other_assigned one.scope x l one.allowed f))
        (two.stays.kept x kinds.Cord (read_known two.scope x m two.allowed r))
      where
        on : (names : List Known) → ((y : List ℕ) (k : Kind) → kind_of names y ≡ Some k → kind_of last y ≡ Some k) → IsOther names x →
            IsOther last x
        on names kept (inl h) = inl (kept x kinds.Number h)
        on names kept (inr h) = inr (kept x kinds.Extensible h)

-- a cord that a line reads is no number
pub no_number : (g : Grammar) (b : List ℕ) (s : List Statement) (p k : ℕ) (l : Statement) (t : List ℕ) → ReadsBy g b s →
    slice_get s p ≡ Some l → slice_get (read_by l) k ≡ Some t → IsNoNumber s t
no_number g b s p k l t read at operand = λ q. at_line (slice_get s q) q refl
  where
    last : List Known
    last = (after_all s start).names

    cord : kind_of last t ≡ Some kinds.Cord
    cord =
        let said : HasScope l last = line_scope g read.lines 1 start s p l read.say at in
        said.stays.kept t kinds.Cord (read_known said.scope t l said.allowed (has_at (read_by l) k t operand))

    at_line : (o : Option Statement) (q : ℕ) → slice_get s q ≡ o → has (numbers_named_at o) t ≡ false
    at_line None q here = refl
    at_line (Some m) q here = false_from_ne_true (has (numbers_named m) t) (λ named. (
        let said : HasScope m last = line_scope g read.lines 1 start s q m read.say here in
        let number : kind_of last t ≡ Some kinds.Number =
        said.stays.kept t kinds.Number (numbers_known m said.scope t said.allowed named) in
        let bad : Some kinds.Cord ≡ Some kinds.Number = sym cord ∙ number in
        cc))
