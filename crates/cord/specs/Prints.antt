-- Prints of texts: the arguments as what conversions are given, and why a print is refused.
use Rattle.std.specs.Prelude.{◌≡◌, ◌<◌, ℕ, Some, None, List, length, map, ⊤}
use Rattle.cord.specs.declared.print.TextArg.{TextArg}
use Rattle.cord.specs.declared.print.TextArg.TheVariants as arguments
use Rattle.cord_printf.specs.declared.errors.PrintError.{PrintError}
use Rattle.cord_printf.specs.declared.errors.PrintError.TheVariants.{WrongArgs, Negative, BadByte, TooLong, NoMemory}
use Rattle.cord_printf.specs.declared.pieces.Piece.{Piece}
use Rattle.cord_printf.specs.Pieces.{wanted}
use Rattle.cord_printf.specs.PieceText.{PieceArgument, number, text, kind_of, printed, first_refusal}

-- an argument as what a conversion is given
abbrev pub piece_argument : TextArg → PieceArgument ℕ
piece_argument (arguments.Num n) = number n
piece_argument (arguments.Text t) = text t.now

abbrev pub piece_arguments : List TextArg → List (PieceArgument ℕ)
piece_arguments args = map piece_argument args

-- the bytes that a format prints of its arguments
abbrev pub print_of : List Piece → List TextArg → List ℕ
print_of pieces args = printed (λ b. b) pieces (piece_arguments args)

-- the arguments are as many as the pieces take, and of their kinds
abbrev pub AreWanted : List Piece → List TextArg → Type 0
AreWanted pieces args = map kind_of (piece_arguments args) ≡ wanted pieces

-- why a print is refused: the arguments first, then from left to right what is given, then the length; out of memory says
-- nothing
abbrev pub IsRefusedFor : ℕ → List Piece → List TextArg → PrintError → Type 0
IsRefusedFor limit pieces args WrongArgs = ¬ AreWanted pieces args
IsRefusedFor limit pieces args (Negative k) = AreWanted pieces args × (first_refusal 0 pieces (piece_arguments args) ≡ Some (Negative k))
IsRefusedFor limit pieces args (BadByte k) = AreWanted pieces args × (first_refusal 0 pieces (piece_arguments args) ≡ Some (BadByte k))
IsRefusedFor limit pieces args TooLong = AreWanted pieces args × (first_refusal 0 pieces (piece_arguments args) ≡ None) ×
    (limit < length (print_of pieces args))
IsRefusedFor limit pieces args NoMemory = ⊤
