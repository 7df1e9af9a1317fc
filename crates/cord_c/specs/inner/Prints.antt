-- Texts of arguments, and refusals with their codes.
use Rattle.std.specs.Prelude.{ℕ, List, map, ⊤}
use Rattle.cord_printf.specs.PieceText.{PieceArgument}
use Rattle.cord_c.specs.declared.argument.Argument.{Argument}
use Rattle.cord_printf.specs.Format.{IsBadAt}
use Rattle.cord_c.specs.declared.print.NoPrint.{NoPrint}
use Rattle.cord_c.specs.declared.print.NoPrint.TheVariants.{TooLong, NoMemory, BadFormat, WrongArguments, BadValue}
use Rattle.cord_c.specs.Prints.{IsLongPrint, IsWrongFor, HasBadValue}

-- the bytes of their texts
abbrev pub texts_in : List Argument → List (List ℕ)
texts_in args = map (λ a. a.text.text) args

-- what a refusal says
abbrev pub IsRefusedPrint : List ℕ → List (PieceArgument ℕ) → NoPrint → Type 0
IsRefusedPrint format args TooLong = IsLongPrint format args
IsRefusedPrint format args NoMemory = ⊤
IsRefusedPrint format args (BadFormat offset) = IsBadAt format offset
IsRefusedPrint format args WrongArguments = IsWrongFor format args
IsRefusedPrint format args (BadValue number) = HasBadValue format args number
