-- What the code goes by that makes the expressions of all lines of a script in one pass, and then the operations.
use Rattle.std.specs.Prelude.{◌≡◌, ℕ, zero, suc, ◌+◌, ◌-◌, Bool, not, ◌&&◌, ◌||◌, ◌==◌, nat_le, List, [], ◌∷◌, map, drop, length, sum_by}
use Rattle.std.specs.Prelude.{if◌then◌else◌, Option, Some, None, slice_get, ◌<◌, ◌≤◌, true, false, ◌++◌, get_or, option_map}
use Rattle.cord_syntax.specs.declared.statements.Statement.{Statement}
use Rattle.cord_syntax.specs.declared.statements.Statement.TheVariants.{Catc, Substr, Cat, Catn}
use Rattle.cord_plan.specs.Exprs.{Expr, name, names, parts, cat}
use Rattle.cord_plan.specs.Operands.{count, read_by, assigns, assigns_at, reads_at, has}
use Rattle.cord_plan.specs.Views.{expr_view, operation_view}
use Rattle.cord_plan.specs.declared.planner.operand_choices.Choice.{Choice}
use Rattle.cord_plan.specs.declared.planner.operand_choices.Choice.TheVariants.{Named, Replaced}
use Rattle.cord_plan.specs.declared.planner.expression_facts.Facts.{Facts}
use Rattle.cord_plan.specs.declared.planner.expression_facts.Entry.{Entry}
use Rattle.cord_plan.specs.declared.planner.expression_facts.ExpressionFacts.{ExpressionFacts}
use Rattle.cord_syntax.specs.Readings.{operand_names}
use Rattle.cord_plan.specs.inner.Liveness.{simple_operands, IsReported, IsRecent}
use Rattle.cord_plan.specs.inner.Numbering.{IsNumbered}
use Rattle.cord_plan.specs.Planned.{Build, Joined, Measure, Operation, Write, is_first, operations, some_from}
use Rattle.cord_plan.specs.declared.expressions.Expr as expressions
use Rattle.cord_plan.specs.declared.planner.operand_choices.Line.{Line}
use Rattle.cord_plan.specs.Inlined as plain
use Rattle.cord_plan.specs.declared.operations.Operation as program

-- how much of a room is left after so many parts, where they find room
abbrev pub room_left : ℕ → ℕ → Option ℕ
room_left n room = if nat_le n room then Some (room - n) else None

-- the last line before p that assigns x, where neither a block's line nor a line that reads x stands after it
abbrev pub nearest : List Statement → List ℕ → ℕ → Option ℕ
nearest s x zero = None
nearest s x (suc p) = if assigns_at (slice_get s p) x then Some p
    else (if plain.is_block_at (slice_get s p) || reads_at (slice_get s p) x then None else nearest s x p)

-- the parts of a line's expression beside those of its operands
abbrev pub parts_beside : Statement → ℕ
parts_beside (Catc line target operand byte) = 1
parts_beside (Substr line target operand start n) = 1
parts_beside l = 0

-- what a choice of the program stands for
abbrev pub choice_view : Choice → plain.Choice
choice_view (Named x) = plain.named x.now
choice_view (Replaced a e) = plain.replaced a (expr_view e.now)

-- how much of a room is left after the parts of what was chosen
abbrev pub room_left_by : List plain.Choice → ℕ → Option ℕ
room_left_by cs room = room_left (sum_by (λ c. parts (plain.expr_of c)) cs) room

-- the expression of the line at a place, where it has one
abbrev pub expression_of : Option (Option Expr) → Option Expr
expression_of None = None
expression_of (Some o) = o

abbrev pub expression_in : List (Option Expr) → ℕ → Option Expr
expression_in table a = expression_of (slice_get table a)

-- the lines before b have these expressions
abbrev pub Has : List (Option Expr) → plain.ChoiceTable → Type 0
Has table t = map (λ entry. entry.0) t ≡ table

-- an expression has so many parts, and each name in it is read from there up to b
pub record IsFacts (s : List Statement) (b : ℕ) (e : Expr) (f : Facts) : Type 0 where
  pub counted : parts e ≡ f.parts
  pub read : (x : List ℕ) → has (names e) x ≡ true → (p : ℕ) × (f.since ≤ p) × (p < b) × (reads_at (slice_get s p) x ≡ true)

-- the same of an expression, which is there
pub record HasFacts (s : List Statement) (b : ℕ) (o : Option Expr) (f : Facts) : Type 0 where
  pub expression : Expr
  pub is : o ≡ Some expression
  pub facts : IsFacts s b expression f

-- each entry is of the expression of the line at its place
abbrev pub AreFactsOf : List Statement → ℕ → List (Option Expr) → ExpressionFacts → Type 0
AreFactsOf s b table known = (n : ℕ) (entry : Entry) → slice_get known.entries.items n ≡ Some (Some entry) →
    HasFacts s b (expression_in table entry.place) entry.facts

-- the same of the lines before b
pub record IsKnown (s : List Statement) (b : ℕ) (table : List (Option Expr)) (known : ExpressionFacts) : Type 0 where
  pub size : length table ≡ b
  pub facts : AreFactsOf s b table known

-- the line at b reads the name that stands for an operand, or the table has the expression that does
abbrev pub IsChoiceOf : List Statement → ℕ → List (Option Expr) → plain.Choice → Type 0
IsChoiceOf s b table (plain.named x) = reads_at (slice_get s b) x ≡ true
IsChoiceOf s b table (plain.replaced a e) = expression_in table a ≡ Some e

-- a simple line of a script, with its operands, its numbers, and what the lines before it assign and read
pub record IsSimpleLine (line : Line) : Type 0 where
  pub here : slice_get line.statements.now line.place ≡ Some line.statement.now
  pub operands : simple_operands line.statement.now ≡ Some (operand_names line.operands)
  pub numbers : IsNumbered line.recent.now.later.now.numbering line.statement.now line.numbers
  pub reported : IsReported line.recent.now.later.now line.statement.now line.place
  pub recent : IsRecent line.statements.now line.place line.recent.now

-- the expression of an operation, where it has one, and those of lines by their operations
abbrev pub operation_expression : Operation → Option Expr
operation_expression (Build line x (Joined e)) = Some e
operation_expression (Measure line x (Joined e)) = Some e
operation_expression (Write line e) = Some e
operation_expression o = None

abbrev pub table_view : List program.Operation → List (Option Expr)
table_view os = map operation_expression (map operation_view os)

-- the operation that computes the length alone where this one builds what an expression makes
abbrev pub measured : Operation → Operation
measured (Build line x (Joined e)) = Measure line x (Joined e)
measured o = o

-- whether a choice takes the members that the line before a place joins, and whether it is a name
abbrev pub is_cat : Expr → Bool
is_cat (cat es) = true
is_cat e = false

abbrev pub is_last : ℕ → plain.Choice → Bool
is_last b (plain.named x) = false
is_last b (plain.replaced a e) = (b - a == 1) && is_cat e

abbrev pub is_named : plain.Choice → Bool
is_named (plain.named x) = true
is_named (plain.replaced a e) = false

-- whether a line with these choices joins the members that the line before it joins, and one more
abbrev pub is_longer : ℕ → Statement → List plain.Choice → Bool
is_longer b (Cat line target left right) (c ∷ d ∷ []) = is_last b c && is_named d
is_longer b (Catn line target many) (c ∷ d ∷ []) = is_last b c && is_named d
is_longer b (Catc line target operand byte) (c ∷ []) = is_last b c
is_longer b l cs = false

-- it comes to be noted of the lines whose expressions these choices take
pub record Takes (cs : List plain.Choice) (old new : List Bool) : Type 0 where
  pub size : length new ≡ length old
  pub is : (p : ℕ) → p < length old → get_or new p false ≡ (get_or old p false || some_from p cs)

module _ (s : List Statement) (later : List ℕ → ℕ → Bool) where
  -- the line l at b, whose operands are xs, names x once, and x is not read later unless l assigns it
  abbrev pub is_spare : ℕ → Statement → List (List ℕ) → List ℕ → Bool
  is_spare b l xs x = (count x xs == 1) && (assigns l x || not (later x b))

  -- e, the expression of the line at a, may stand for x in the line l at b, whose operands are xs, where the lines between are no blocks
  -- and don't read x
  abbrev pub stands : Expr → ℕ → ℕ → Statement → List (List ℕ) → List ℕ → Bool
  stands e a b l xs x = (count x xs == 1) && ((assigns l x || not (later x b)) && plain.each_from
      (λ m. plain.preserves (slice_get s m) (names e)) (b - a) a)

  -- what stands for the next operand x after those that were chosen for
  abbrev pub IsChoice : ℕ → Statement → List (List ℕ) → List ℕ → List (Option Expr) → List plain.Choice → plain.Choice → Type 0
  IsChoice b l xs x table done c =
      (t : plain.ChoiceTable) → Has table t → c ≡ plain.chosen_of s later t b l x (map (λ d. plain.expr_of d) done)
      (map (λ y. name y) (drop (length done + 1) xs)) (plain.setter s x b)

  -- what stands for each operand of a line
  abbrev pub AreChoices : ℕ → Statement → List (Option Expr) → List plain.Choice → Type 0
  AreChoices b l table cs = (t : plain.ChoiceTable) → Has table t → cs ≡ plain.choices s later t b l [] (read_by l)

  -- what is made of the line l at b, and what comes to be noted: which lines it takes, and whether its choices extend the line before it
  pub record IsNext (b : ℕ) (l : Statement) (table : List (Option Expr)) (old new : List Bool) (facts : ExpressionFacts)
      (next : Option expressions.Expr × Bool) : Type 0 where
    pub expression : (t : plain.ChoiceTable) → Has table t →
        option_map expr_view next.0 ≡ (plain.operands_chosen s later t b l (plain.defining l)).0
    pub taken : (t : plain.ChoiceTable) → Has table t → Takes (plain.operands_chosen s later t b l (plain.defining l)).1 old new
    pub longer : (t : plain.ChoiceTable) → Has table t → next.1 ≡ true →
        is_longer b l (plain.operands_chosen s later t b l (plain.defining l)).1 ≡ true
    pub known : IsKnown s (b + 1) (table ++ option_map expr_view next.0 ∷ []) facts

  -- the choices of the line at p say it
  pub record IsLongerAt (p : ℕ) : Type 0 where
    pub line : Statement
    pub entry : Option Expr × List plain.Choice
    pub at : slice_get s p ≡ Some line
    pub entered : slice_get (plain.exprs s later) p ≡ Some entry
    pub longer : is_longer p line entry.1 ≡ true

  -- where it is said of a place, the choices of the line there say so
  abbrev pub AreLonger : List Bool → Type 0
  AreLonger reported = (p : ℕ) → slice_get reported p ≡ Some true → IsLongerAt p

  -- the operations of all lines, of which none is the first of a pair yet, and the lines that are
  pub record AreUnpaired (made : List Operation) (taken : List Bool) : Type 0 where
    pub are : made ≡ operations later [] 0 s (plain.exprs s later)
    pub size : length taken ≡ length s
    pub long : length made ≡ length taken
    pub is : (p : ℕ) → p < length s → get_or taken p false ≡ is_first p (plain.exprs s later)
