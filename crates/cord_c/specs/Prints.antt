-- Formats with arguments of C.
use Rattle.std.specs.Prelude.{◌≡◌, ◌⊎◌, ◌<◌, ◌==◌, ℕ, if◌then◌else◌, Some, None, List, length, map}
use Rattle.cord_io.specs.declared.TheConstants.{MAX_LEN}
use Rattle.cord_printf.specs.declared.pieces.Piece.{Piece}
use Rattle.cord_printf.specs.Format.{IsFormat}
use Rattle.cord_printf.specs.declared.errors.PrintError.TheVariants.{Negative, BadByte}
use Rattle.cord_printf.specs.Pieces.{wanted}
use Rattle.cord_printf.specs.PieceText.{PieceArgument, number, text, kind_of, printed, first_refusal}
use Rattle.cord_c.specs.declared.argument.Argument.{Argument}

-- what a conversion is given
abbrev pub piece_argument : Argument → PieceArgument ℕ
piece_argument a = if a.is_text == 0 then number a.number else text a.text.text

abbrev pub piece_arguments : List Argument → List (PieceArgument ℕ)
piece_arguments args = map piece_argument args

-- the arguments are as many as the pieces take, and of their kinds, and each piece takes its own
pub record TakesArguments (pieces : List Piece) (args : List (PieceArgument ℕ)) : Type 0 where
  pub kinds : map kind_of args ≡ wanted pieces
  pub taken : first_refusal 0 pieces args ≡ None

-- the bytes that a format prints of arguments
pub record IsPrint (format : List ℕ) (args : List (PieceArgument ℕ)) (bytes : List ℕ) : Type 0 where
  pub pieces : List Piece
  pub read : IsFormat format pieces
  pub takes : TakesArguments pieces args
  pub bytes_are : bytes ≡ printed (λ b. b) pieces args

-- what would be printed is too long
pub record IsLongPrint (format : List ℕ) (args : List (PieceArgument ℕ)) : Type 0 where
  pub pieces : List Piece
  pub read : IsFormat format pieces
  pub takes : TakesArguments pieces args
  pub long : MAX_LEN < length (printed (λ b. b) pieces args)

-- the bytes are a format that takes another number of arguments, or others' kinds
pub record IsWrongFor (format : List ℕ) (args : List (PieceArgument ℕ)) : Type 0 where
  pub pieces : List Piece
  pub read : IsFormat format pieces
  pub unwanted : ¬ (map kind_of args ≡ wanted pieces)

-- the argument of this number is the first whose value its conversion doesn't take
pub record HasBadValue (format : List ℕ) (args : List (PieceArgument ℕ)) (number : ℕ) : Type 0 where
  pub pieces : List Piece
  pub read : IsFormat format pieces
  pub kinds : map kind_of args ≡ wanted pieces
  pub refused : (first_refusal 0 pieces args ≡ Some (Negative number)) ⊎ (first_refusal 0 pieces args ≡ Some (BadByte number))
