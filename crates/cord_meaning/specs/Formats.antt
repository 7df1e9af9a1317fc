-- What the pieces of a format print with the arguments of a statement.
use Rattle.std.specs.Prelude.{ℕ, Option, Some, None, Result, Ok, Err, List, map}
use Rattle.cord_printf.specs.declared.errors.PrintError.{PrintError}
use Rattle.cord_printf.specs.declared.errors.PrintError.TheVariants as refusals
use Rattle.cord_printf.specs.declared.pieces.Piece.{Piece}
use Rattle.cord_printf.specs.PieceText.{PieceArgument, number, text, printed, first_refusal}
use Rattle.cord_operands.specs.declared.operands.Argument.{Argument}
use Rattle.cord_operands.specs.declared.operands.Argument.TheVariants as arguments
use Rattle.cord_meaning.specs.declared.ends.FaultKind.{FaultKind}
use Rattle.cord_meaning.specs.declared.ends.FaultKind.TheVariants.{Negative, BadByte, TooLong}
use Rattle.cord_meaning.specs.State.{State, number_value}

-- an argument of a statement, as what a conversion is given
abbrev pub piece_argument : State → Argument → PieceArgument ℕ
piece_argument s (arguments.Number n) = number (number_value s n)
piece_argument s (arguments.Cord name) = text (s.texts name)

-- the fault that a refused argument is; of a statement that was read, whose arguments are those that its format wants, only the first two
-- come
abbrev pub fault_of : PrintError → FaultKind
fault_of (refusals.Negative k) = Negative
fault_of (refusals.BadByte k) = BadByte
fault_of refusals.WrongArgs = TooLong
fault_of refusals.TooLong = TooLong
fault_of refusals.NoMemory = TooLong

abbrev pub unless_refused : Option PrintError → List ℕ → Result (List ℕ) FaultKind
unless_refused None t = Ok t
unless_refused (Some e) t = Err (fault_of e)

-- the text of a format with the arguments of a statement, or the fault of the first argument that is refused
abbrev pub format_text : State → List Piece → List Argument → Result (List ℕ) FaultKind
format_text s format args =
    let values : List (PieceArgument ℕ) = map (λ a. piece_argument s a) args in
    unless_refused (first_refusal 0 format values) (printed (λ b. b) format values)
