-- The operations of a plan read and put where the script's statements do.
use Rattle.cord_run.proofs.Common.{ℕ, List, [], Bool, true, false, refl, sym, ◌∙◌, subst, inl, inr, Statement, Let, File, Eager, Lazy}
use Rattle.cord_run.proofs.Common.{Chars, Nul, FromFn, Cat, Catn, Catc, Substr, Balance, EcToCord, Sprintf, Put, IsPut, IsReading, line_of}
use Rattle.cord_run.proofs.Common.{Expr, operation_line, target_of, Made, Joined, Literal, OfFile, OfEager, OfLazy, OfFunction, Balanced}
use Rattle.cord_run.proofs.Common.{OfExtensible, Printed, Operation, gives, is_dead, is_first, operation, operations, or_nothing, planned}
use Rattle.cord_run.proofs.Common.{trivial, FailsNowhereElse, IsFileMade, IsReader, IsWriter, IsPlanBy, Way, ByPlan, AsWritten, ◌≡◌, ◌+◌}
use Rattle.cord_run.proofs.Common.{◌∷◌, ◌||◌}
use Rattle.cord_plan.specs.Inlined.{ChoiceTable, exprs, defining}

gives_line : (m : Bool) (line : ℕ) (target : List ℕ) (made : Made) → operation_line (gives m line target made) ≡ line
gives_line true line target made = refl
gives_line false line target made = refl

gives_reads : (m : Bool) (line : ℕ) (target : List ℕ) (made : Made) → IsReader (gives m line target made) → IsFileMade made
gives_reads true line target made h = h
gives_reads false line target made h = h

gives_writes : (m : Bool) (line : ℕ) (target : List ℕ) (made : Made) → IsWriter (gives m line target made) → ⊥
gives_writes true line target made h = h
gives_writes false line target made h = h

-- an operation, and its statement
record IsAlike (l : Statement) (o : Operation) : Type 0 where
  pub line : operation_line o ≡ line_of l
  pub reads : IsReader o → IsReading l
  pub writes : IsWriter o → IsPut l

-- a name that is given what a file has
of_file : (l : Statement) (m : Bool) (target : List ℕ) (made : Made) → IsReading l → IsAlike l (gives m (line_of l) target made)
of_file l m target made reading = record {
  line = gives_line m (line_of l) target made;
  reads = λ h. reading;
  writes = λ h. absurd (gives_writes m (line_of l) target made h);
}

-- or anything else
of_other : (l : Statement) (m : Bool) (target : List ℕ) (made : Made) → (IsFileMade made → ⊥) → IsAlike l (gives m (line_of l) target made)
of_other l m target made none = record {
  line = gives_line m (line_of l) target made;
  reads = λ h. absurd (none (gives_reads m (line_of l) target made h));
  writes = λ h. absurd (gives_writes m (line_of l) target made h);
}

alike : (l : Statement) (e : Expr) (d p : Bool) → IsAlike l (operation l e d p)
alike (Cat line target left right) e d p = of_other (Cat line target left right) (d || p) target (Joined e) (λ h. h)
alike (Catn line target many) e d p = of_other (Catn line target many) (d || p) target (Joined e) (λ h. h)
alike (Catc line target operand byte) e d p = of_other (Catc line target operand byte) (d || p) target (Joined e) (λ h. h)
alike (Chars line target byte n) e d p = of_other (Chars line target byte n) (d || p) target (Joined e) (λ h. h)
alike (Nul line target n) e d p = of_other (Nul line target n) (d || p) target (Joined e) (λ h. h)
alike (Substr line target operand start n) e d p = of_other (Substr line target operand start n) (d || p) target (Joined e) (λ h. h)
alike (Put line operand) e d p = record { line = refl; reads = λ h. tt; writes = λ h. tt }
alike (Let line target text) e d p = of_other (Let line target text) d target (Literal text) (λ h. h)
alike (File line target path) e d p = of_file (File line target path) d target (OfFile path) tt
alike (Eager line target path) e d p = of_file (Eager line target path) d target (OfEager path) tt
alike (Lazy line target path) e d p = of_file (Lazy line target path) d target (OfLazy path) tt
alike (FromFn line target function n) e d p = of_other (FromFn line target function n) d target (OfFunction function n) (λ h. h)
alike (Balance line target operand) e d p = of_other (Balance line target operand) d target (Balanced operand) (λ h. h)
alike (EcToCord line target extensible) e d p = of_other (EcToCord line target extensible) d target (OfExtensible extensible) (λ h. h)
alike (Sprintf line target text format arguments) e d p = of_other (Sprintf line target text format arguments) d target
    (Printed text format arguments) (λ h. h)
alike _ e d p = record { line = refl; reads = λ h. h; writes = λ h. absurd h }

-- the first one, and the others
with_first : (l : Statement) (o : Operation) (rest : List Statement) (os : List Operation) → IsAlike l o → FailsNowhereElse rest os →
    FailsNowhereElse (l ∷ rest) (o ∷ os)
with_first l o rest os same more = record {
  reads = λ line at. elim at [ inl h ↦ inl (sym same.line ∙ h.0, same.reads h.1) | inr h ↦ inr (more.reads line h) ];
  writes = λ line at. elim at [ inl h ↦ inl (sym same.line ∙ h.0, same.writes h.1) | inr h ↦ inr (more.writes line h) ];
}

no_operations : (ss : List Statement) → FailsNowhereElse ss []
no_operations ss = record { reads = λ line at. absurd at; writes = λ line at. absurd at }

-- those of the trivial plan
trivial_alike : (s : List Statement) → FailsNowhereElse s (trivial s)
trivial_alike [] = no_operations []
trivial_alike (l ∷ rest) = with_first l (operation l (or_nothing (defining l)) false false) rest (trivial rest)
    (alike l (or_nothing (defining l)) false false) (trivial_alike rest)

from_place : (later : List ℕ → ℕ → Bool) (table : ChoiceTable) (p : ℕ) (s : List Statement) (entries : ChoiceTable) →
    FailsNowhereElse s (operations later table p s entries)
from_place later table p [] entries = no_operations []
from_place later table p (l ∷ rest) [] = no_operations (l ∷ rest)
from_place later table p (l ∷ rest) (entry ∷ entries) =
    let dead = is_dead later p (target_of l) in
    let first = is_first p table in
    with_first l (operation l (or_nothing entry.0) dead first) rest (operations later table (p + 1) rest entries)
    (alike l (or_nothing entry.0) dead first) (from_place later table (p + 1) rest entries)

-- those of its plan
planned_alike : (s : List Statement) (later : List ℕ → ℕ → Bool) → FailsNowhereElse s (planned s later)
planned_alike s later = from_place later (exprs s later) 0 s (exprs s later)

-- those of either
pub plan_alike : (way : Way) (s : List Statement) (operations : List Operation) → IsPlanBy way s operations → FailsNowhereElse s operations
plan_alike ByPlan s operations h = subst (FailsNowhereElse s) (sym h.2) (planned_alike s h.0)
plan_alike AsWritten s operations h = subst (FailsNowhereElse s) (sym h) (trivial_alike s)
