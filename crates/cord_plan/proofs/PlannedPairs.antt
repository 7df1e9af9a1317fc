-- The operations of inlined pairs.
use Rattle.std.specs.Prelude.{◌≡◌, ◌+◌, ◌||◌, ◌∷◌}
use Rattle.cord_plan.proofs.Common.{ℕ, zero, suc, Bool, true, false, List, [], Option, Some, refl, sym, ap, ◌∙◌, subst, arith, slice_get}
use Rattle.cord_plan.proofs.Common.{bytes_eq, or_left, or_right, eq-eqb, Statement, Chars, Nul, Cat, Catn, Catc, Substr, Put, Expr, read_by}
use Rattle.cord_plan.proofs.Common.{target_of, assigns, ChoiceTable, Choice, replaced, defining, exprs, Operation, Measure, Joined, gives}
use Rattle.cord_plan.proofs.Common.{or_nothing, operation, is_from, some_from, is_first, is_dead, operations, planned, IsPair}
use Rattle.cord_syntax.specs.Lines.{line_of}
use Rattle.cord_plan.specs.Pairs.{expression_of}
use Rattle.cord_plan.proofs.Chosen.{EntryOf, SimpleEntry, Taken, entry_of, line_there, simple_entry}
use Rattle.cord_plan.proofs.Named.{same_bytes}
use Rattle.cord_plan.proofs.ReadNames.{HasDefining}
use Rattle.cord_plan.proofs.Pairs.{taken_at}

-- the operation at a line's place
pub operation_at : (later : List ℕ → ℕ → Bool) (table : ChoiceTable) (p : ℕ) (s : List Statement) (entries : ChoiceTable) (k : ℕ) (l : Statement)
    (en : Option Expr × List Choice) → slice_get s k ≡ Some l → slice_get entries k ≡ Some en →
    slice_get (operations later table p s entries) k ≡ Some (operation l (or_nothing en.0) (is_dead later (p + k) (target_of l))
    (is_first (p + k) table))
operation_at later table p (m ∷ rest) (first ∷ entries) zero l en e f =
    let line : m ≡ l = cc in
    let same : first ≡ en = cc in
    let place : p ≡ p + 0 = omega arith in
    ap (λ (x : Statement). Some (operation x (or_nothing first.0) (is_dead later p (target_of x)) (is_first p table))) line
    ∙ ap (λ (x : Option Expr × List Choice). Some (operation l (or_nothing x.0) (is_dead later p (target_of l)) (is_first p table))) same
    ∙ ap (λ (n : ℕ). Some (operation l (or_nothing en.0) (is_dead later n (target_of l)) (is_first n table))) place
operation_at later table p (m ∷ rest) (first ∷ entries) (suc k) l en e f =
    let place : p + 1 + k ≡ p + suc k = omega arith in
    operation_at later table (p + 1) rest entries k l en e f
    ∙ ap (λ (n : ℕ). Some (operation l (or_nothing en.0) (is_dead later n (target_of l)) (is_first n table))) place
operation_at later table p _ _ k l en e f = let bad : ⊥ = cc in absurd bad

-- a line whose expression was taken is the first of a pair
some_found : (a i : ℕ) (r : Expr) (cs : List Choice) → slice_get cs i ≡ Some (replaced a r) → some_from a cs ≡ true
some_found a i r [] e = let bad : ⊥ = cc in absurd bad
some_found a zero r (c ∷ cs) e =
    let same : c ≡ replaced a r = cc in
    or_left (is_from a c) (some_from a cs) (ap (λ (d : Choice). is_from a d) same ∙ eq-eqb a a refl)
some_found a (suc i) r (c ∷ cs) e = or_right (is_from a c) (some_from a cs) (some_found a i r cs e)

first_found : (a b : ℕ) (table : ChoiceTable) (en : Option Expr × List Choice) → slice_get table b ≡ Some en → some_from a en.1 ≡ true →
    is_first a table ≡ true
first_found a b [] en e f = let bad : ⊥ = cc in absurd bad
first_found a zero (first ∷ table) en e f =
    let same : first ≡ en = cc in
    or_left (some_from a first.1) (is_first a table) (ap (λ (x : Option Expr × List Choice). some_from a x.1) same ∙ f)
first_found a (suc b) (first ∷ table) en e f = or_right (some_from a first.1) (is_first a table) (first_found a b table en e f)

gives_expression : (v : Bool) (line : ℕ) (x : List ℕ) (e : Expr) → expression_of (gives v line x (Joined e)) ≡ Some e
gives_expression true line x e = refl
gives_expression false line x e = refl

-- the operation of a line with an expression has it
has_expression : (l : Statement) (e : Expr) (dead paired : Bool) → HasDefining (defining l) → expression_of (operation l e dead paired) ≡
    Some e
has_expression (Cat line target left right) e dead paired o = gives_expression (dead || paired) line target e
has_expression (Catn line target many) e dead paired o = gives_expression (dead || paired) line target e
has_expression (Catc line target operand byte) e dead paired o = gives_expression (dead || paired) line target e
has_expression (Chars line target byte n) e dead paired o = gives_expression (dead || paired) line target e
has_expression (Nul line target n) e dead paired o = gives_expression (dead || paired) line target e
has_expression (Substr line target operand start n) e dead paired o = gives_expression (dead || paired) line target e
has_expression (Put line operand) e dead paired o = refl
has_expression l e dead paired o = absurd o

measured_by : (dead paired : Bool) (line : ℕ) (x t : List ℕ) (e : Expr) → paired ≡ true → bytes_eq t x ≡ true →
    gives (dead || paired) line x (Joined e) ≡ Measure line t (Joined e)
measured_by dead paired line x t e first named =
    ap (λ (v : Bool). gives v line x (Joined e)) (or_right dead paired first)
    ∙ ap (λ (y : List ℕ). Measure line y (Joined e)) (sym (same_bytes t x named))

-- the first line of a pair computes the length alone of the name that it assigns
only_measures : (l : Statement) (e : Expr) (dead paired : Bool) (t : List ℕ) → HasDefining (defining l) → assigns l t ≡ true → paired ≡ true
    →
    operation l e dead paired ≡ Measure (line_of l) t (Joined e)
only_measures (Cat line target left right) e dead paired t o named first = measured_by dead paired line target t e first named
only_measures (Catn line target many) e dead paired t o named first = measured_by dead paired line target t e first named
only_measures (Catc line target operand byte) e dead paired t o named first = measured_by dead paired line target t e first named
only_measures (Chars line target byte n) e dead paired t o named first = measured_by dead paired line target t e first named
only_measures (Nul line target n) e dead paired t o named first = measured_by dead paired line target t e first named
only_measures (Substr line target operand start n) e dead paired t o named first = measured_by dead paired line target t e first named
only_measures (Put line operand) e dead paired t o named first = let bad : ⊥ = cc in absurd bad
only_measures l e dead paired t o named first = absurd o

module _ (s : List Statement) (later : List ℕ → ℕ → Bool) where
  pub has_defining : (k : ℕ) (l : Statement) (e : Expr) (cs : List Choice) → slice_get s k ≡ Some l →
      slice_get (exprs s later) k ≡ Some (Some e, cs) → HasDefining (defining l)
  has_defining k l e cs at entry = subst (λ (o : Option Expr). HasDefining o) (sym (simple_entry s later k l e cs at entry).defining_is) tt

  module _ (a b : ℕ) (t : List ℕ) (e : Expr) (pair : IsPair s later a b t e) where
    -- the later operation has the pair's expression
    pub later_operation : (o : Operation) × (slice_get (planned s later) b ≡ Some o) × (expression_of o ≡ Some e)
    later_operation = (
      operation pair.line e (is_dead later (0 + b) (target_of pair.line)) (is_first (0 + b) (exprs s later)),
      operation_at later (exprs s later) 0 s (exprs s later) b pair.line (Some e, pair.choices) pair.is_line pair.is_expression,
      has_expression pair.line e (is_dead later (0 + b) (target_of pair.line)) (is_first (0 + b) (exprs s later))
          (has_defining b pair.line e pair.choices pair.is_line pair.is_expression),
    )

    -- the earlier one computes the name's length alone
    pub earlier_operation : (line : ℕ) × (slice_get (planned s later) a ≡ Some (Measure line t (Joined pair.earlier)))
    earlier_operation =
        let w : SimpleEntry s later b pair.line e pair.choices =
        simple_entry s later b pair.line e pair.choices pair.is_line pair.is_expression in
        let taken : Taken s later w.table b pair.line t a pair.earlier =
        taken_at s later w.table b pair.line (read_by pair.line) pair.choices pair.operand t a pair.earlier w.chosen pair.is_operand
        pair.is_replaced in
        let from : EntryOf w.table a pair.earlier = entry_of w.table a pair.earlier taken.from in
        let entered : slice_get (exprs s later) a ≡ Some (Some pair.earlier, from.choices) = w.prefix a _ from.at in
        let line = line_there (slice_get s a) t taken.set.assigns in
        let defining_is : HasDefining (defining line.0) = has_defining a line.0 pair.earlier from.choices line.1 entered in
        let first : is_first a (exprs s later) ≡ true =
        first_found a b (exprs s later) (Some e, pair.choices) pair.is_expression
        (some_found a pair.operand pair.earlier pair.choices pair.is_replaced) in
        let place : 0 + a ≡ a = omega arith in (
          line_of line.0,
          operation_at later (exprs s later) 0 s (exprs s later) a line.0 (Some pair.earlier, from.choices) line.1 entered
              ∙ ap (λ (n : ℕ). Some (operation line.0 pair.earlier (is_dead later n (target_of line.0)) (is_first n (exprs s later)))) place
              ∙ ap (λ (o : Operation). Some o) (only_measures line.0 pair.earlier (is_dead later a (target_of line.0))
              (is_first a (exprs s later)) t defining_is line.2 first),
        )
