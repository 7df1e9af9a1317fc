-- The text of a plan: one line per operation, ended by byte 10.
use Rattle.std.specs.Prelude.{ℕ, ℤ, pos, negsuc, ◌+◌, ◌/◌, ◌%◌, ◌||◌, ◌==◌, nat_lt, if◌then◌else◌, None, List, [], ◌∷◌, ◌++◌, length, codes}
use Rattle.std.specs.Prelude.{flat_map}
use Rattle.cord_printf.specs.declared.pieces.Radix.TheVariants as radices
use Rattle.cord_printf.specs.PieceText.{digits_in}
use Rattle.cord_operands.specs.declared.operands.Number.{Number}
use Rattle.cord_operands.specs.declared.operands.Number.TheVariants.{Numeral, Named}
use Rattle.cord_operands.specs.declared.operands.Argument.{Argument}
use Rattle.cord_operands.specs.declared.operands.Argument.TheVariants as arguments
use Rattle.cord_syntax.specs.declared.statements.Statement.{Statement}
use Rattle.cord_syntax.specs.declared.statements.Statement.TheVariants.{Len, Fetch, Cmp, Ncmp, Str, Chr, Rchr, Assign, Add, Sub, EcInit}
use Rattle.cord_syntax.specs.declared.statements.Statement.TheVariants.{EcPut, EcCat, EcStr, Repeat, If, Else, End}
use Rattle.cord_script.specs.Tests.{function_word, relation_word}
use Rattle.cord_meaning.specs.Statements.{line_of}
use Rattle.cord_plan.specs.Exprs.{Expr, name, run, cat, sub, Exprs, nothing, member}
use Rattle.cord_plan.specs.Planned.{Made, Joined, Literal, OfFile, OfEager, OfLazy, OfFunction, Balanced, OfExtensible, Printed, Operation}
use Rattle.cord_plan.specs.Planned.{Build, Measure, Write, Keep}

-- words, separated by one blank
abbrev pub spaced : List (List ℕ) → List ℕ
spaced [] = []
spaced (w ∷ []) = w
spaced (w ∷ v ∷ ws) = w ++ 32 ∷ spaced (v ∷ ws)

-- `word(inner)`
abbrev pub called : List ℕ → List ℕ → List ℕ
called word inner = word ++ 40 ∷ inner ++ 41 ∷ []

-- a number in shortest decimal form, as `%d` prints it
abbrev pub decimal : ℕ → List ℕ
decimal n = digits_in radices.Decimal None n

-- an integer in shortest decimal form
abbrev pub signed_decimal : ℤ → List ℕ
signed_decimal (pos n) = decimal n
signed_decimal (negsuc n) = 45 ∷ decimal (n + 1)

-- a number operand: its name, or its shortest decimal form
abbrev pub number : Number → List ℕ
number (Numeral z) = signed_decimal z
number (Named n) = n

abbrev mutual
  pub expr : Expr → List ℕ
  expr (name x) = x
  expr (run c n) = called (codes "run") (spaced (number c ∷ number n ∷ []))
  expr (cat es) = called (codes "cat") (exprs es)
  expr (sub e i n) = called (codes "sub") (spaced (expr e ∷ number i ∷ number n ∷ []))

  pub exprs : Exprs → List ℕ
  exprs nothing = []
  exprs (member e es) = expr e ++ more_exprs es

  pub more_exprs : Exprs → List ℕ
  more_exprs nothing = []
  more_exprs (member e es) = 32 ∷ expr e ++ more_exprs es

-- a small hexadecimal digit
abbrev pub hex : ℕ → ℕ
hex d = if nat_lt d 10 then 48 + d else 87 + d

-- a byte of a path: `"`, `\` and what isn't from 32 to 126 as `\xHH`
abbrev pub path_byte : ℕ → List ℕ
path_byte b = if (b == 34) || ((b == 92) || (nat_lt b 32 || nat_lt 126 b)) then 92 ∷ 120 ∷ hex (b / 16) ∷ hex (b % 16) ∷ [] else b ∷ []

abbrev pub quoted : List ℕ → List ℕ
quoted path = 34 ∷ flat_map (λ b. path_byte b) path ++ 34 ∷ []

abbrev pub argument : Argument → List ℕ
argument (arguments.Number n) = number n
argument (arguments.Cord x) = x

abbrev pub printed_arguments : List Argument → List ℕ
printed_arguments [] = []
printed_arguments (a ∷ rest) = 32 ∷ argument a ++ printed_arguments rest

abbrev pub made : Made → List ℕ
made (Joined e) = expr e
made (Literal text) = called (codes "literal") (decimal (length text))
made (OfFile path) = called (codes "file") (quoted path)
made (OfEager path) = called (codes "eager") (quoted path)
made (OfLazy path) = called (codes "lazy") (quoted path)
made (OfFunction f n) = called (codes "fn") (spaced (function_word f ∷ number n ∷ []))
made (Balanced x) = called (codes "balance") x
made (OfExtensible e) = called (codes "ectocord") e
made (Printed text format args) = called (codes "sprintf") (decimal (length text) ++ printed_arguments args)

-- `number N word(operands)`
abbrev pub counted : List ℕ → List ℕ → List (List ℕ) → List ℕ
counted target word operands = spaced (codes "number" ∷ target ∷ called word (spaced operands) ∷ [])

-- `ec e what`
abbrev pub grows : List ℕ → List ℕ → List ℕ
grows e what = spaced (codes "ec" ∷ e ∷ what ∷ [])

-- a statement that is kept; those that build, write or compute the length alone are no such ones
abbrev pub statement : Statement → List ℕ
statement (Len line n x) = counted n (codes "len") (x ∷ [])
statement (Fetch line n x i) = counted n (codes "fetch") (x ∷ number i ∷ [])
statement (Cmp line n x y) = counted n (codes "cmp") (x ∷ y ∷ [])
statement (Ncmp line n x i y j k) = counted n (codes "ncmp") (x ∷ number i ∷ y ∷ number j ∷ number k ∷ [])
statement (Str line n x i y) = counted n (codes "str") (x ∷ number i ∷ y ∷ [])
statement (Chr line n x i c) = counted n (codes "chr") (x ∷ number i ∷ number c ∷ [])
statement (Rchr line n x i c) = counted n (codes "rchr") (x ∷ number i ∷ number c ∷ [])
statement (Assign line n a) = counted n (codes "set") (number a ∷ [])
statement (Add line n a b) = counted n (codes "add") (number a ∷ number b ∷ [])
statement (Sub line n a b) = counted n (codes "sub") (number a ∷ number b ∷ [])
statement (EcInit line e) = grows e (codes "init")
statement (EcPut line e c) = grows e (called (codes "byte") (number c))
statement (EcStr line e text) = grows e (called (codes "bytes") (decimal (length text)))
statement (EcCat line e x) = grows e (called (codes "cord") x)
statement (Repeat line a) = spaced (codes "repeat" ∷ number a ∷ [])
statement (If line a r b) = spaced (codes "if" ∷ number a ∷ relation_word r ∷ number b ∷ [])
statement (Else line) = codes "else"
statement (End line) = codes "end"
statement _ = []

-- a line of the text: the line number, a blank, and what is done
abbrev pub operation : Operation → List ℕ
operation (Build line x m) = spaced (decimal line ∷ codes "build" ∷ x ∷ made m ∷ [])
operation (Measure line x m) = spaced (decimal line ∷ codes "measure" ∷ x ∷ made m ∷ [])
operation (Write line e) = spaced (decimal line ∷ codes "write" ∷ expr e ∷ [])
operation (Keep l) = spaced (decimal (line_of l) ∷ statement l ∷ [])

-- the text of a plan
abbrev pub text_of_plan : List Operation → List ℕ
text_of_plan [] = []
text_of_plan (o ∷ rest) = operation o ++ 10 ∷ text_of_plan rest
