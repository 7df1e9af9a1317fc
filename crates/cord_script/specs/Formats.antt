-- What the conversions of a format want.
use Rattle.std.specs.Prelude.{◌≡◌, ℕ, List, map, Option, Some, None}
use Rattle.cord_printf.specs.declared.pieces.ArgKind.{ArgKind}
use Rattle.cord_printf.specs.declared.pieces.ArgKind.TheVariants as printed
use Rattle.cord_printf.specs.declared.pieces.Piece.{Piece}
use Rattle.cord_printf.specs.Pieces.{wanted}
use Rattle.cord_printf.specs.Format.{IsFormat, IsBadAt}
use Rattle.cord_script.specs.declared.kinds.Kind.TheVariants as kinds
use Rattle.cord_script.specs.declared.kinds.Want.{Want}
use Rattle.cord_script.specs.declared.kinds.Want.TheVariants as wants

-- What an argument of a format has to be: a number operand, or the name of a cord.
abbrev pub want_of_kind : ArgKind → Want
want_of_kind printed.Number = wants.Number
want_of_kind printed.Cord = wants.Operand kinds.Cord

-- what the conversions of these pieces want, in order
abbrev pub wants_of_pieces : List Piece → List Want
wants_of_pieces pieces = map want_of_kind (wanted pieces)

-- What the conversions of a text want that is a format; none where it isn't one.
abbrev pub AreWantedBy : List ℕ → Option (List Want) → Type 0
AreWantedBy text (Some xs) = (pieces : List Piece) × IsFormat text pieces × (xs ≡ wants_of_pieces pieces)
AreWantedBy text None = (offset : ℕ) × IsBadAt text offset
