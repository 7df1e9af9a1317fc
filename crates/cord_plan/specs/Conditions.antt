-- The conditions on what a plan decides under which it keeps the meaning of its script: on dead targets, on those whose length alone is computed, and on inlined
-- pairs.
use Rattle.std.specs.Prelude.{◌≡◌, ◌<◌, ◌≤◌, ◌⊎◌, ℕ, ◌+◌, Bool, true, false, not, ◌&&◌, List, [], ◌∷◌, map, Option, Some, None, slice_get}
use Rattle.cord_syntax.specs.declared.statements.Statement.{Statement}
use Rattle.cord_syntax.specs.declared.statements.Statement.TheVariants.{Let, File, Eager, Lazy, Chars, Nul, FromFn, Cat, Catn, Catc, Substr}
use Rattle.cord_syntax.specs.declared.statements.Statement.TheVariants.{Balance, EcToCord, Sprintf, Put}
use Rattle.cord_plan.specs.Exprs.{Expr, name, names}
use Rattle.cord_plan.specs.Operands.{read_by, assigns, assigns_at, reads_at}
use Rattle.cord_plan.specs.Liveness.{NotLive}
use Rattle.cord_plan.specs.Inlined.{expr_with, is_block_at, preserves}
use Rattle.cord_plan.specs.Planned.{Operation, operation}

-- what a plan decides of each line: its expression, whether it computes the length alone because its target is dead, or because it is the first of a
-- inlined pair, and the line whose expression stands for an operand
pub record Decisions : Type 0 where
  pub exprs : ℕ → Expr
  pub dead : ℕ → Bool
  pub paired : ℕ → Bool
  pub source : ℕ → List ℕ → Option ℕ

-- the plan of these decisions: the operations of the lines from place p on
abbrev pub decided_from : Decisions → ℕ → List Statement → List Operation
decided_from d p [] = []
decided_from d p (l ∷ rest) = operation l (d.exprs p) (d.dead p) (d.paired p) ∷ decided_from d (p + 1) rest

abbrev pub decided : Decisions → List Statement → List Operation
decided d s = decided_from d 0 s

-- whether a line is simple: it has a defining expression
abbrev pub is_simple : Statement → Bool
is_simple (Chars line target byte count) = true
is_simple (Nul line target count) = true
is_simple (Cat line target left right) = true
is_simple (Catn line target parts) = true
is_simple (Catc line target operand byte) = true
is_simple (Substr line target operand start count) = true
is_simple (Put line operand) = true
is_simple _ = false

abbrev pub is_simple_at : Option Statement → Bool
is_simple_at None = false
is_simple_at (Some l) = is_simple l

-- whether a line gives a text to the name of a cord
abbrev pub makes_cord : Statement → Bool
makes_cord (Let line target text) = true
makes_cord (File line target path) = true
makes_cord (Eager line target path) = true
makes_cord (Lazy line target path) = true
makes_cord (Chars line target byte count) = true
makes_cord (Nul line target count) = true
makes_cord (FromFn line target function count) = true
makes_cord (Cat line target left right) = true
makes_cord (Catn line target parts) = true
makes_cord (Catc line target operand byte) = true
makes_cord (Substr line target operand start count) = true
makes_cord (Balance line target operand) = true
makes_cord (EcToCord line target extensible) = true
makes_cord (Sprintf line target text format arguments) = true
makes_cord _ = false

-- whether the line at a place assigns a name of another kind than a cord
abbrev pub assigns_other_at : Option Statement → List ℕ → Bool
assigns_other_at None x = false
assigns_other_at (Some l) x = not (makes_cord l) && assigns l x

-- a name that some line assigns as a number or an extensible cord is read by no line as a cord
abbrev pub HasKinds : List Statement → Type 0
HasKinds s = (p q : ℕ) (x : List ℕ) → assigns_other_at (slice_get s p) x ≡ true → reads_at (slice_get s q) x ≡ false

-- what stands for the operand x of a line: the expression of its source, or the name
abbrev pub stands_by : (ℕ → Expr) → Option ℕ → List ℕ → Expr
stands_by exprs None x = name x
stands_by exprs (Some a) x = exprs a

abbrev pub stands : Decisions → ℕ → List ℕ → Expr
stands d p x = stands_by d.exprs (d.source p x) x

-- the lines at a and b may be an inlined pair for x
pub record IsInlined (s : List Statement) (d : Decisions) (a b : ℕ) (x : List ℕ) : Type 0 where
  pub before : a < b
  pub first : is_simple_at (slice_get s a) ≡ true
  pub second : is_simple_at (slice_get s b) ≡ true
  -- a is the last line before b that assigns x
  pub sets : assigns_at (slice_get s a) x ≡ true
  pub unassigned : (m : ℕ) → a < m → m < b → assigns_at (slice_get s m) x ≡ false
  -- the lines between are no blocks and don't read x
  pub straight : (m : ℕ) → a < m → m < b → is_block_at (slice_get s m) ≡ false
  pub not_live : (m : ℕ) → a < m → m < b → reads_at (slice_get s m) x ≡ false
  -- x is assigned by b or not read after it
  pub later : (assigns_at (slice_get s b) x ≡ true) ⊎ NotLive s x b
  -- no line from a up to b assigns a name of the expression
  pub fixed : (m : ℕ) → a ≤ m → m < b → preserves (slice_get s m) (names (d.exprs a)) ≡ true

-- the conditions
pub record MeetsConditions (s : List Statement) (d : Decisions) : Type 0 where
  pub kinds : HasKinds s
  -- the expression of a simple line is its own, with what stands for its operands
  pub defining : (p : ℕ) (l : Statement) → slice_get s p ≡ Some l → is_simple l ≡ true → expr_with l (map (λ x. stands d p x) (read_by l))
      ≡ Some (d.exprs p)
  -- each source is that of an inlined pair
  pub inlined : (a b : ℕ) (x : List ℕ) → d.source b x ≡ Some a → IsInlined s d a b x
  -- a target whose length alone is computed is dead, or is the first of an inlined pair
  pub dead : (p : ℕ) (x : List ℕ) → d.dead p ≡ true → assigns_at (slice_get s p) x ≡ true → NotLive s x p
  pub paired : (p : ℕ) (x : List ℕ) → d.paired p ≡ true → assigns_at (slice_get s p) x ≡ true → (b : ℕ) × (d.source b x ≡ Some p)
