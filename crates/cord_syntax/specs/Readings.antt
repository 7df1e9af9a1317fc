-- What a statement reads.
use Rattle.std.specs.Prelude.{ℕ, List, [], ◌∷◌}
use Rattle.cord_operands.specs.declared.operands.Argument.{Argument}
use Rattle.cord_operands.specs.declared.operands.Argument.TheVariants as arguments
use Rattle.cord_syntax.specs.declared.readings.Operands.{Operands}
use Rattle.cord_syntax.specs.declared.readings.Operands.TheVariants.{Nothing, One, Two, Listed}
use Rattle.cord_syntax.specs.declared.readings.Reading.{Reading}
use Rattle.cord_syntax.specs.declared.readings.Reading.TheVariants as readings
use Rattle.cord_syntax.specs.declared.statements.Statement.{Statement}
use Rattle.cord_syntax.specs.declared.statements.Statement.TheVariants.{Cat, Catn, Catc, Substr, Balance, Sprintf}
use Rattle.cord_syntax.specs.declared.statements.Statement.TheVariants.{Fetch, Cmp, Ncmp, Str, Chr, Rchr, EcCat, Put}

-- the names of cords among the arguments of a format
abbrev pub cord_arguments : List Argument → List (List ℕ)
cord_arguments [] = []
cord_arguments (arguments.Number n ∷ rest) = cord_arguments rest
cord_arguments (arguments.Cord x ∷ rest) = x ∷ cord_arguments rest

-- the cords whose bytes a line reads, from left to right: every cord that it has as an operand, but for `len`
abbrev pub read_by : Statement → List (List ℕ)
read_by (Cat line target left right) = left ∷ right ∷ []
read_by (Catn line target parts) = parts
read_by (Catc line target operand byte) = operand ∷ []
read_by (Substr line target operand start count) = operand ∷ []
read_by (Balance line target operand) = operand ∷ []
read_by (Sprintf line target text format arguments) = cord_arguments arguments
read_by (Fetch line target operand index) = operand ∷ []
read_by (Cmp line target left right) = left ∷ right ∷ []
read_by (Ncmp line target left left_start right right_start count) = left ∷ right ∷ []
read_by (Str line target operand start pattern) = operand ∷ pattern ∷ []
read_by (Chr line target operand start byte) = operand ∷ []
read_by (Rchr line target operand start byte) = operand ∷ []
read_by (EcCat line extensible operand) = operand ∷ []
read_by (Put line operand) = operand ∷ []
read_by _ = []

-- the names of operands
abbrev pub operand_names : Operands → List (List ℕ)
operand_names Nothing = []
operand_names (One x) = x.now ∷ []
operand_names (Two x y) = x.now ∷ y.now ∷ []
operand_names (Listed xs) = xs.now

-- the names that are read
abbrev pub read_names : Reading → List (List ℕ)
read_names (readings.Operands operands) = operand_names operands
read_names (readings.Printed arguments) = cord_arguments arguments.now
