-- Plans keep only statements that make no cord and put nothing.
use Rattle.std.specs.Prelude.{◌+◌, ◌∷◌}
use Rattle.cord_plan.proofs.Common.{ℕ, Bool, true, false, List, [], All, Statement, Put, Expr, ChoiceTable, defining, exprs, KeepsNoOther}
use Rattle.cord_plan.proofs.Common.{target_of, operation, operations, or_nothing, is_dead, is_first, planned, trivial}
use Rattle.std.proofs.lemmas.List.Elements.{All-nil, All-cons}

-- a plan keeps only such statements
kept_line : (l : Statement) (e : Expr) (dead paired : Bool) → KeepsNoOther (operation l e dead paired)
kept_line (Put line operand) e dead paired = tt
kept_line l e true paired = tt
kept_line l e false true = tt
kept_line l e false false = tt

pub kept_trivial : (s : List Statement) → All KeepsNoOther (trivial s)
kept_trivial [] = All-nil KeepsNoOther
kept_trivial (l ∷ rest) = All-cons KeepsNoOther (operation l (or_nothing (defining l)) false false) (trivial rest)
    (kept_line l (or_nothing (defining l)) false false) (kept_trivial rest)

kept_lines : (later : List ℕ → ℕ → Bool) (table : ChoiceTable) (p : ℕ) (s : List Statement) (entries : ChoiceTable) →
    All KeepsNoOther (operations later table p s entries)
kept_lines later table p [] entries = All-nil KeepsNoOther
kept_lines later table p (l ∷ rest) [] = All-nil KeepsNoOther
kept_lines later table p (l ∷ rest) (entry ∷ entries) =
    All-cons KeepsNoOther (operation l (or_nothing entry.0) (is_dead later p (target_of l)) (is_first p table))
    (operations later table (p + 1) rest entries)
    (kept_line l (or_nothing entry.0) (is_dead later p (target_of l)) (is_first p table))
    (kept_lines later table (p + 1) rest entries)

pub kept_planned : (s : List Statement) (later : List ℕ → ℕ → Bool) → All KeepsNoOther (planned s later)
kept_planned s later = kept_lines later (exprs s later) 0 s (exprs s later)
