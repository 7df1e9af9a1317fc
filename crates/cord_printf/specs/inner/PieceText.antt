-- Arguments over other elements.
use Rattle.std.specs.Prelude.{map}
use Rattle.cord_printf.specs.PieceText.{PieceArgument, number, text}

-- an argument with its elements changed
abbrev pub map_argument : {A B : Type 0} → (A → B) → PieceArgument A → PieceArgument B
map_argument f (number n) = number n
map_argument f (text x) = text (map f x)
