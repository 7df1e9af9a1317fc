-- Prints over a table of sources, as prints of plain bytes.
use Rattle.std.specs.Prelude.{◌≡◌, ℕ, List, [], ◌∷◌, Option, length, map}
use Rattle.cord_io.specs.Table.{Table, Lengths}
use Rattle.cord_node.specs.declared.Node.{Node}
use Rattle.cord_node.specs.Tables.{lengths_of}
use Rattle.cord_core.specs.Cord.{bytes_of, CordFitsIn}
use Rattle.cord_printf.specs.declared.arguments.Arg.{Arg}
use Rattle.cord_printf.specs.declared.arguments.Arg.TheVariants.{Num, Cord}
use Rattle.cord_printf.specs.declared.pieces.Piece.{Piece}
use Rattle.cord_printf.specs.PieceText.{PieceArgument, number, text, printed}

-- the cords among the arguments fit these lengths
abbrev pub ArgumentsFitIn : Lengths → List Arg → Type 0
ArgumentsFitIn lengths [] = Unit {0}
ArgumentsFitIn lengths (Num n ∷ args) = ArgumentsFitIn lengths args
ArgumentsFitIn lengths (Cord c ∷ args) = CordFitsIn lengths c × ArgumentsFitIn lengths args

-- an argument as what a conversion is given: a cord as its bytes over a table
abbrev pub argument_over : Table → Arg → PieceArgument ℕ
argument_over t (Num n) = number n
argument_over t (Cord c) = text (bytes_of t c)

-- over every table that the arguments fit the cord, which then fits too, is the print of their bytes
pub record IsPrintOf (pieces : List Piece) (args : List Arg) (cord : Option Node) : Type 0 where
  pub fits : (lengths : Lengths) → ArgumentsFitIn lengths args → CordFitsIn lengths cord
  pub bytes : (t : Table) → ArgumentsFitIn (lengths_of t) args → bytes_of t cord ≡ printed (λ b. b) pieces (map (argument_over t) args)

-- over every table that the arguments fit, the print of their bytes is so long
abbrev pub IsLengthOfPrint : List Piece → List Arg → ℕ → Type 0
IsLengthOfPrint pieces args len = (t : Table) → ArgumentsFitIn (lengths_of t) args →
    len ≡ length (printed (λ b. b) pieces (map (argument_over t) args))
