-- Inlined pairs of a plan: an earlier line whose expression stands for an operand of a later one.
use Rattle.std.specs.Prelude.{◌≡◌, ℕ, Bool, false, List, [], ◌++◌, Option, Some, None, slice_get}
use Rattle.cord_syntax.specs.declared.statements.Statement.{Statement}
use Rattle.cord_syntax.specs.declared.statements.Statement.TheVariants.{Chars, Nul, Catc, Substr}
use Rattle.cord_plan.specs.Exprs.{Expr, number_names}
use Rattle.cord_plan.specs.Operands.{has, read_by}
use Rattle.cord_plan.specs.Inlined.{Choice, replaced, exprs}
use Rattle.cord_plan.specs.Planned.{Operation, Joined, Build, Measure, Write}

-- the lines at a and b are an inlined pair for t, and e is the expression of the later line
pub record IsPair (s : List Statement) (later : List ℕ → ℕ → Bool) (a b : ℕ) (t : List ℕ) (e : Expr) : Type 0 where
  pub line : Statement
  pub choices : List Choice
  pub operand : ℕ
  pub earlier : Expr
  pub is_line : slice_get s b ≡ Some line
  pub is_expression : slice_get (exprs s later) b ≡ Some (Some e, choices)
  pub is_operand : slice_get (read_by line) operand ≡ Some t
  pub is_replaced : slice_get choices operand ≡ Some (replaced a earlier)

-- the names of numbers in a line's defining expression
abbrev pub numbers_named : Statement → List (List ℕ)
numbers_named (Chars line target byte n) = number_names byte ++ number_names n
numbers_named (Nul line target n) = number_names n
numbers_named (Catc line target operand byte) = number_names byte
numbers_named (Substr line target operand start n) = number_names start ++ number_names n
numbers_named _ = []

abbrev pub numbers_named_at : Option Statement → List (List ℕ)
numbers_named_at None = []
numbers_named_at (Some l) = numbers_named l

-- in no line's defining expression is a name that of a number
abbrev pub IsNoNumber : List Statement → List ℕ → Type 0
IsNoNumber s t = (p : ℕ) → has (numbers_named_at (slice_get s p)) t ≡ false

-- the expression of an operation, where it has one
abbrev pub expression_of : Operation → Option Expr
expression_of (Build line x (Joined e)) = Some e
expression_of (Measure line x (Joined e)) = Some e
expression_of (Write line e) = Some e
expression_of _ = None
