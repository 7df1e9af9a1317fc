-- The expression of each line, and the inlined pairs.
use Rattle.std.specs.Prelude.{ℕ, zero, suc, ◌+◌, ◌-◌, Bool, true, false, not, ◌&&◌, ◌||◌, ◌==◌, nat_le, List, [], ◌∷◌, ◌++◌, map, pos}
use Rattle.std.specs.Prelude.{if◌then◌else◌, Option, Some, None, slice_get}
use Rattle.cord_operands.specs.declared.operands.Number.TheVariants.{Numeral}
use Rattle.cord_syntax.specs.declared.statements.Statement.{Statement}
use Rattle.cord_syntax.specs.declared.statements.Statement.TheVariants.{Chars, Nul, Cat, Catn, Catc, Substr, Put}
use Rattle.cord_meaning.specs.Blocks.{Shape, Straight, Loop, Branch, Otherwise, Close}
use Rattle.cord_meaning.specs.Statements.{shape_of}
use Rattle.cord_plan.specs.declared.TheConstants.{MAX_EXPR_PARTS}
use Rattle.cord_plan.specs.Exprs.{Expr, name, run, cat, sub, members, parts, names}
use Rattle.cord_plan.specs.Operands.{count, read_by, assigns, assigns_at, reads_at}

-- the expression of a simple line whose cord operands stand as these expressions; of other lines there is none
abbrev pub expr_with : Statement → List Expr → Option Expr
expr_with (Cat line target left right) es = Some (cat (members es))
expr_with (Catn line target many) es = Some (cat (members es))
expr_with (Catc line target operand byte) es = Some (cat (members (es ++ run byte (Numeral (pos 1)) ∷ [])))
expr_with (Chars line target byte n) es = Some (run byte n)
expr_with (Nul line target n) es = Some (run (Numeral (pos 0)) n)
expr_with (Substr line target operand start n) (e ∷ es) = Some (sub e start n)
expr_with (Put line operand) (e ∷ es) = Some e
expr_with _ es = None

-- the defining expression of a simple line
abbrev pub defining : Statement → Option Expr
defining l = expr_with l (map (λ x. name x) (read_by l))

-- whether an expression has at most so many parts that an operand may be replaced
abbrev pub is_small : Option Expr → Bool
is_small None = false
is_small (Some e) = nat_le (parts e) MAX_EXPR_PARTS

-- what stands for an operand: its name, or the expression of the line at a place
pub data Choice : Type 0 where
  named : List ℕ → Choice
  replaced : ℕ → Expr → Choice

abbrev pub expr_of : Choice → Expr
expr_of (named x) = name x
expr_of (replaced a e) = e

abbrev pub is_block : Shape → Bool
is_block Straight = false
is_block Loop = true
is_block Branch = true
is_block Otherwise = true
is_block Close = true

abbrev pub is_block_at : Option Statement → Bool
is_block_at None = false
is_block_at (Some l) = is_block (shape_of l)

-- whether it holds of each of n places from a on
abbrev pub each_from : (ℕ → Bool) → ℕ → ℕ → Bool
each_from holds zero a = true
each_from holds (suc n) a = holds a && each_from holds n (a + 1)

-- whether a line assigns none of these names
abbrev pub preserves : Option Statement → List (List ℕ) → Bool
preserves l [] = true
preserves l (x ∷ xs) = not (assigns_at l x) && preserves l xs

-- the last line before p that assigns x
abbrev pub setter : List Statement → List ℕ → ℕ → Option ℕ
setter s x zero = None
setter s x (suc p) = if assigns_at (slice_get s p) x then Some p else setter s x p

-- the choices of a line, and the lines before it that have been chosen for
abbrev pub ChoiceTable : Type 0
ChoiceTable = List (Option Expr × List Choice)

abbrev pub first_of : Option (Option Expr × List Choice) → Option Expr
first_of None = None
first_of (Some entry) = entry.0

module _ (s : List Statement) (later : List ℕ → ℕ → Bool) where
  -- e, the expression of the line at a, the last before b that assigns x, may stand for x in the line l at b: the lines between are no
  -- blocks and don't read x, l names x once, x is not read later unless l assigns it, and no name of e is assigned from a up to b
  abbrev pub fits : Expr → ℕ → ℕ → Statement → List ℕ → Bool
  fits e a b l x =
      each_from (λ m. not (is_block_at (slice_get s m)) && not (reads_at (slice_get s m) x)) (b - (a + 1)) (a + 1)
      && ((count x (read_by l) == 1)
      && ((assigns l x || not (later x b))
      && each_from (λ m. preserves (slice_get s m) (names e)) (b - a) a))

  -- the same of the expression of the line at a, if it has one, and the whole expression stays small, where other operands stand before and
  -- after it
  abbrev pub chosen_from : ℕ → Statement → List ℕ → List Expr → List Expr → ℕ → Option Expr → Choice
  chosen_from b l x before after a None = named x
  chosen_from b l x before after a (Some e) =
      if fits e a b l x && is_small (expr_with l (before ++ e ∷ after)) then replaced a e else named x

  -- what stands for the operand x, which the line at this place was the last to assign
  abbrev pub chosen_of : ChoiceTable → ℕ → Statement → List ℕ → List Expr → List Expr → Option ℕ → Choice
  chosen_of table b l x before after None = named x
  chosen_of table b l x before after (Some a) = chosen_from b l x before after a (first_of (slice_get table a))

  -- the operands of the line l at b from left to right: what was chosen so far, and those that are left
  abbrev pub choices : ChoiceTable → ℕ → Statement → List Choice → List (List ℕ) → List Choice
  choices table b l done [] = done
  choices table b l done (x ∷ xs) =
      choices table b l (done ++ chosen_of table b l x (map (λ c. expr_of c) done) (map (λ y. name y) xs) (setter s x b) ∷ []) xs

  -- a line with its choices; a line that is no simple one has no expression
  abbrev pub entry : Statement → List Choice → Option Expr × List Choice
  entry l cs = (expr_with l (map (λ c. expr_of c) cs), cs)

  -- the line's operands are chosen for where it is simple
  abbrev pub operands_chosen : ChoiceTable → ℕ → Statement → Option Expr → Option Expr × List Choice
  operands_chosen table b l None = (None, [])
  operands_chosen table b l (Some e) = entry l (choices table b l [] (read_by l))

  -- going down the script, the expression E(l) and the choices of each line
  abbrev pub grown : ChoiceTable → ℕ → List Statement → ChoiceTable
  grown table b [] = table
  grown table b (l ∷ rest) = grown (table ++ operands_chosen table b l (defining l) ∷ []) (b + 1) rest

  abbrev pub exprs : ChoiceTable
  exprs = grown [] 0 s
