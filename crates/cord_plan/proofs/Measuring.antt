-- Operations that compute the length alone, since a later line takes their expression.
use Rattle.std.specs.Prelude.{◌≡◌, ◌+◌, ◌<◌, ◌||◌, ◌∷◌, ◌++◌, if◌then◌else◌}
use Rattle.cord_plan.proofs.Common.{ℕ, suc, Bool, true, false, List, [], map, take, length, get_or, set, refl, sym, ap, ◌∙◌}
use Rattle.std.proofs.lemmas.List.{get_or-map}
use Rattle.cord_plan.proofs.Common.{arith, length-take, map-set, take_more, AreUnpaired, ChoiceTable, Expr, Operation, Statement, exprs, is_dead}
use Rattle.cord_plan.proofs.Common.{is_first, operation, operation_view, operations, or_nothing, planned, target_of}
use Rattle.cord_plan.specs.Planned.{Build, Joined, Made, gives}
use Rattle.cord_plan.specs.inner.Choices.{measured}
use Rattle.cord_plan.specs.declared.operations.Operation as program
use Rattle.cord_syntax.specs.declared.statements.Statement.TheVariants.{Let, File, Eager, Lazy, Chars, Nul, FromFn, Cat, Catn, Catc, Substr}
use Rattle.cord_syntax.specs.declared.statements.Statement.TheVariants.{Balance, EcToCord, Sprintf, Put}

-- ---- one operation
abbrev pub measured_if : Bool → Operation → Operation
measured_if v o = if v then measured o else o

joined : (v dead : Bool) (line : ℕ) (x : List ℕ) (e : Expr) →
    measured_if v (gives (dead || false) line x (Joined e)) ≡ gives (dead || v) line x (Joined e)
joined true true line x e = refl
joined true false line x e = refl
joined false true line x e = refl
joined false false line x e = refl

-- of a text that no expression makes the length alone is computed only where its target is dead
other : (v dead : Bool) (line : ℕ) (x : List ℕ) (made : Made) → measured (Build line x made) ≡ Build line x made →
    measured_if v (gives dead line x made) ≡ gives dead line x made
other true true line x made same = refl
other true false line x made same = same
other false true line x made same = refl
other false false line x made same = refl

-- the operation of a line, where a later line may take its expression
measured_operation : (l : Statement) (e : Expr) (dead v : Bool) → measured_if v (operation l e dead false) ≡ operation l e dead v
measured_operation (Cat line target left right) e dead v = joined v dead line target e
measured_operation (Catn line target many) e dead v = joined v dead line target e
measured_operation (Catc line target operand byte) e dead v = joined v dead line target e
measured_operation (Chars line target byte n) e dead v = joined v dead line target e
measured_operation (Nul line target n) e dead v = joined v dead line target e
measured_operation (Substr line target operand start n) e dead v = joined v dead line target e
measured_operation (Put line operand) e dead true = refl
measured_operation (Put line operand) e dead false = refl
measured_operation (Let line target text) e dead v = other v dead line target _ refl
measured_operation (File line target path) e dead v = other v dead line target _ refl
measured_operation (Eager line target path) e dead v = other v dead line target _ refl
measured_operation (Lazy line target path) e dead v = other v dead line target _ refl
measured_operation (FromFn line target function n) e dead v = other v dead line target _ refl
measured_operation (Balance line target operand) e dead v = other v dead line target _ refl
measured_operation (EcToCord line target extensible) e dead v = other v dead line target _ refl
measured_operation (Sprintf line target text format arguments) e dead v = other v dead line target _ refl
measured_operation l e dead true = refl
measured_operation l e dead false = refl

-- ---- all operations
abbrev pub measured_by : List Bool → List Operation → List Operation
measured_by [] os = os
measured_by (v ∷ vs) [] = []
measured_by (v ∷ vs) (o ∷ os) = measured_if v o ∷ measured_by vs os

-- one more of them
set_then : (vs : List Bool) (v : Bool) (os : List Operation) (o : Operation) → length vs < length os →
    o ≡ get_or (measured_by vs os) (length vs) o → set (measured_by vs os) (length vs) (measured_if v o) ≡ measured_by (vs ++ v ∷ []) os
set_then [] v [] o lt is = absurd (omega (arith, lt))
set_then [] v (q ∷ os) o lt is = ap (λ (r : Operation). measured_if v r ∷ os) is
set_then (u ∷ vs) v [] o lt is = absurd (omega (arith, lt))
set_then (u ∷ vs) v (q ∷ os) o lt is = ap (λ (ps : List Operation). measured_if u q ∷ ps) (set_then vs v os o (omega (arith, lt)) is)

-- with the flag at a place
pub flag_set : (vs : List Bool) (i : ℕ) (v : Bool) (os : List program.Operation) (old : List Operation) (o r : program.Operation) →
    i < length vs → v ≡ get_or vs i false → i < length os → length os ≡ length old → map operation_view os ≡ measured_by (take i vs) old →
    o ≡ get_or os i o → operation_view r ≡ measured_if v (operation_view o) →
    map operation_view (set os i r) ≡ measured_by (take (i + 1) vs) old
flag_set vs i v os old o r within is inside size so_far here made =
    let far : length (take i vs) ≡ i = omega (arith, length-take i vs, within) in
    let view : operation_view o ≡ get_or (map operation_view os) i (operation_view o) =
    ap operation_view here ∙ sym (get_or-map operation_view os i o (operation_view o) inside) in
    map-set operation_view os i r
    ∙ (ap (set (map operation_view os) i) made
    ∙ (ap (λ (ps : List Operation). set ps i (measured_if v (operation_view o))) so_far
    ∙ (ap (λ (k : ℕ). set (measured_by (take i vs) old) k (measured_if v (operation_view o))) (sym far)
    ∙ (set_then (take i vs) v old (operation_view o) (omega (arith, far, inside, size))
    (view ∙ (ap (λ (ps : List Operation). get_or ps i (operation_view o)) so_far
    ∙ ap (λ (k : ℕ). get_or (measured_by (take i vs) old) k (operation_view o)) (sym far)))
    ∙ ap (λ (us : List Bool). measured_by us old) (ap (λ (u : Bool). take i vs ++ u ∷ []) is ∙ sym (take_more vs i false within))))))

-- the operations of lines whose expressions are taken
all_measured : (later : List ℕ → ℕ → Bool) (T : ChoiceTable) (p : ℕ) (vs : List Bool) (ls : List Statement) (es : ChoiceTable) →
    length vs ≡ length ls → ((k : ℕ) → k < length ls → get_or vs k false ≡ is_first (p + k) T) →
    measured_by vs (operations later [] p ls es) ≡ operations later T p ls es
all_measured later T p [] [] es size is = refl
all_measured later T p (v ∷ vs) (l ∷ ls) [] size is = refl
all_measured later T p (v ∷ vs) (l ∷ ls) (e ∷ es) size is =
    let here : p + 0 ≡ p = omega arith in
    let first : v ≡ is_first p T = is 0 (omega arith) ∙ ap (λ (n : ℕ). is_first n T) here in
    λ i. (measured_operation l (or_nothing e.0) (is_dead later p (target_of l)) v
    ∙ ap (operation l (or_nothing e.0) (is_dead later p (target_of l))) first) i
    ∷ all_measured later T (p + 1) vs ls es (omega (arith, size)) (λ k lt. (let next : p + suc k ≡ p + 1 + k = omega arith in
    is (suc k) (omega (arith, lt)) ∙ ap (λ (n : ℕ). is_first n T) next)) i
all_measured later T p _ _ es size is = absurd (omega (arith, size))

pub all_planned : (s : List Statement) (later : List ℕ → ℕ → Bool) (made : List Operation) (taken : List Bool) →
    AreUnpaired s later made taken → measured_by taken made ≡ planned s later
all_planned s later made taken h =
    ap (measured_by taken) h.are
    ∙ all_measured later (exprs s later) 0 taken s (exprs s later) h.size
    (λ k lt. (let same : k ≡ 0 + k = omega arith in h.is k lt ∙ ap (λ (n : ℕ). is_first n (exprs s later)) same))
