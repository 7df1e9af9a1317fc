-- Expressions: what a line makes of names of cords and of runs of a byte.
use Rattle.std.specs.Prelude.{ℕ, ◌+◌, Bool, true, not, ◌&&◌, List, [], ◌∷◌, ◌++◌}
use Rattle.std.specs.Str.{bytes_eq}
use Rattle.cord_operands.specs.declared.operands.Number.{Number}
use Rattle.cord_operands.specs.declared.operands.Number.TheVariants.{Numeral, Named}

-- an expression is a name, `run(c n)`, `cat(E1 E2 ..)` or `sub(E i n)`
mutual
  pub data Expr : Type 0 where
    name : List ℕ → Expr
    run : Number → Number → Expr
    cat : Exprs → Expr
    sub : Expr → Number → Number → Expr

  pub data Exprs : Type 0 where
    nothing : Exprs
    member : Expr → Exprs → Exprs

-- the parts of an expression are its names of cords, its runs and its subs, each place counted, also inside a sub
abbrev mutual
  pub parts : Expr → ℕ
  parts (name x) = 1
  parts (run c n) = 1
  parts (cat es) = parts_of es
  parts (sub e i n) = parts e + 1

  pub parts_of : Exprs → ℕ
  parts_of nothing = 0
  parts_of (member e es) = parts e + parts_of es

-- the name of a number operand, where it is one
abbrev pub number_names : Number → List (List ℕ)
number_names (Numeral z) = []
number_names (Named n) = n ∷ []

-- the names of an expression are the names of cords and of numbers that stand in it
abbrev mutual
  pub names : Expr → List (List ℕ)
  names (name x) = x ∷ []
  names (run c n) = number_names c ++ number_names n
  names (cat es) = names_of es
  names (sub e i n) = names e ++ (number_names i ++ number_names n)

  pub names_of : Exprs → List (List ℕ)
  names_of nothing = []
  names_of (member e es) = names e ++ names_of es

-- whether a name stands nowhere in a list of names
abbrev pub lacks : List (List ℕ) → List ℕ → Bool
lacks [] x = true
lacks (y ∷ ys) x = not (bytes_eq y x) && lacks ys x

abbrev pub append : Exprs → Exprs → Exprs
append nothing others = others
append (member e es) others = member e (append es others)

-- putting a `cat` as a member of a `cat` puts that one's members there instead
abbrev pub preceding : Expr → Exprs → Exprs
preceding (name x) others = member (name x) others
preceding (run c n) others = member (run c n) others
preceding (cat es) others = append es others
preceding (sub e i n) others = member (sub e i n) others

-- the members that these expressions give to a `cat`
abbrev pub members : List Expr → Exprs
members [] = nothing
members (e ∷ es) = preceding e (members es)
