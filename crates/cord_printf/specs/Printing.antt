-- Prints on cords: arguments, what a piece shows, refusals.
use Rattle.std.specs.Prelude.{◌≡◌, ◌<◌, ℕ, Some, None, List, length, map}
use Rattle.cord_node.specs.Tree.{Cell, known}
use Rattle.cord_core.specs.Cord as cords
use Rattle.cord_printf.specs.declared.arguments.Arg.{Arg}
use Rattle.cord_printf.specs.declared.arguments.Arg.TheVariants as arguments
use Rattle.cord_printf.specs.declared.errors.PrintError.{PrintError}
use Rattle.cord_printf.specs.declared.errors.PrintError.TheVariants.{WrongArgs, Negative, BadByte, TooLong, NoMemory}
use Rattle.cord_printf.specs.declared.pieces.Piece.{Piece}
use Rattle.cord_printf.specs.Pieces.{wanted}
use Rattle.cord_printf.specs.PieceText.{PieceArgument, number, text, kind_of, printed, first_refusal}

-- an argument as what a conversion is given: a cord as its cells
abbrev pub argument_of : Arg → PieceArgument Cell
argument_of (arguments.Num n) = number n
argument_of (arguments.Cord c) = text (cords.text c)

abbrev pub arguments_of : List Arg → List (PieceArgument Cell)
arguments_of args = map argument_of args

-- the arguments are as many as the pieces take, and of their kinds
abbrev pub AreWanted : List Piece → List (PieceArgument Cell) → Type 0
AreWanted pieces args = map kind_of args ≡ wanted pieces

-- why a print is refused, out of memory aside: the arguments first, then from left to right what is given, then the length
abbrev pub IsRefusedFor : ℕ → List Piece → List (PieceArgument Cell) → PrintError → Type 0
IsRefusedFor limit pieces args WrongArgs = ¬ AreWanted pieces args
IsRefusedFor limit pieces args (Negative k) = AreWanted pieces args × (first_refusal 0 pieces args ≡ Some (Negative k))
IsRefusedFor limit pieces args (BadByte k) = AreWanted pieces args × (first_refusal 0 pieces args ≡ Some (BadByte k))
IsRefusedFor limit pieces args TooLong = AreWanted pieces args × (first_refusal 0 pieces args ≡ None) ×
    (limit < length (printed known pieces args))
IsRefusedFor limit pieces args NoMemory = ⊥

-- the arguments are wanted and none is refused
pub record IsPrintable (pieces : List Piece) (args : List (PieceArgument Cell)) : Type 0 where
  pub wanted_are : AreWanted pieces args
  pub none_refused : first_refusal 0 pieces args ≡ None
