-- *piece text*: what a format's pieces print, over elements A into which bytes go by a function.
-- Texts of plain bytes and of cords' cells are printed by the same words.
use Rattle.std.specs.Prelude.{ℕ, ◌+◌, ◌-◌, Bool, not, ◌&&◌, if◌then◌else◌, Option, Some, None, unwrap_or, is_none, List, [], ◌∷◌, ◌++◌}
use Rattle.std.specs.Prelude.{length, map, replicate, take, drop, ℤ, pos, negsuc, unsigned_abs, nat_lt}
use Rattle.std.specs.Int.Digits.{digits_of}
use Rattle.cord_printf.specs.declared.errors.PrintError.{PrintError}
use Rattle.cord_printf.specs.declared.errors.PrintError.TheVariants.{Negative, BadByte}
use Rattle.cord_printf.specs.declared.pieces.ArgKind.{ArgKind}
use Rattle.cord_printf.specs.declared.pieces.ArgKind.TheVariants as kinds
use Rattle.cord_printf.specs.declared.pieces.Flags.{Flags}
use Rattle.cord_printf.specs.declared.pieces.Radix.{Radix}
use Rattle.cord_printf.specs.declared.pieces.Radix.TheVariants.{Decimal, Octal, LowerHex, UpperHex}
use Rattle.cord_printf.specs.declared.pieces.Piece.{Piece}
use Rattle.cord_printf.specs.declared.pieces.Piece.TheVariants.{Text, Signed, Unsigned, Byte, Cord, Percent}
use Rattle.cord_printf.specs.Pieces.{wants}

-- what a conversion is given: a number, or a text of elements
pub data PieceArgument (A : Type 0) : Type 0 where
  number : ℤ → PieceArgument A
  text : List A → PieceArgument A

abbrev pub kind_of : {A : Type 0} → PieceArgument A → ArgKind
kind_of (number n) = kinds.Number
kind_of (text x) = kinds.Cord

abbrev pub base_of : Radix → ℕ
base_of Decimal = 10
base_of Octal = 8
base_of LowerHex = 16
base_of UpperHex = 16

-- the byte that shows a digit
abbrev pub figure : Radix → ℕ → ℕ
figure UpperHex d = if nat_lt d 10 then 48 + d else 55 + d
figure _ d = if nat_lt d 10 then 48 + d else 87 + d

-- the digits of a number, the most significant first, with zeros in front up to the precision, which is 1 where none is given:
-- so 0 is `0`, and has no digits with precision 0
abbrev pub digits_in : Radix → Option ℕ → ℕ → List ℕ
digits_in radix precision n =
    let digits = map (figure radix) (digits_of (base_of radix) n) in
    replicate (unwrap_or precision 1 - length digits) 48 ++ digits

-- `-` of a negative number; with the flag `+` of any other
abbrev pub sign_of : Bool → ℤ → List ℕ
sign_of plus (pos n) = if plus then 43 ∷ [] else []
sign_of plus (negsuc n) = 45 ∷ []

-- blanks up to the width: after with the flag `-`, else in front
abbrev pub padded : {A : Type 0} → A → Bool → ℕ → List A → List A
padded blank left width x = if left then x ++ replicate (width - length x) blank else replicate (width - length x) blank ++ x

-- sign and digits up to the width: with the flag `0`, without `-` and a precision, by zeros between the two
abbrev pub number_text : Flags → ℕ → Option ℕ → List ℕ → List ℕ → List ℕ
number_text flags width precision sign digits =
    if flags.zero && (not flags.left && is_none precision)
    then sign ++ replicate (width - length (sign ++ digits)) 48 ++ digits
    else padded 32 flags.left width (sign ++ digits)

-- with a precision, its first elements
abbrev pub cut : {A : Type 0} → Option ℕ → List A → List A
cut None x = x
cut (Some precision) x = take precision x

-- the text of a piece with its argument, where it takes one
abbrev pub piece_text : {A : Type 0} → (ℕ → A) → Piece → Option (PieceArgument A) → List A
piece_text of_byte (Text t) a = map of_byte t
piece_text of_byte (Signed flags width precision) (Some (number n)) =
    map of_byte (number_text flags width precision (sign_of flags.plus n) (digits_in Decimal precision (unsigned_abs n)))
piece_text of_byte (Unsigned radix flags width precision) (Some (number n)) =
    map of_byte (number_text flags width precision [] (digits_in radix precision (unsigned_abs n)))
piece_text of_byte (Byte flags width) (Some (number n)) = map of_byte (padded 32 flags.left width (unsigned_abs n ∷ []))
piece_text of_byte (Cord flags width precision) (Some (text x)) = padded (of_byte 32) flags.left width (cut precision x)
piece_text of_byte Percent a = of_byte 37 ∷ []
piece_text of_byte _ _ = []

-- the first argument where a piece takes one
abbrev pub argument_if : {A : Type 0} → Option ArgKind → List (PieceArgument A) → Option (PieceArgument A)
argument_if None arguments = None
argument_if (Some k) [] = None
argument_if (Some k) (a ∷ arguments) = Some a

-- the arguments that are left
abbrev pub others_if : {A : Type 0} → Option ArgKind → List (PieceArgument A) → List (PieceArgument A)
others_if None arguments = arguments
others_if (Some k) arguments = drop 1 arguments

-- the text of a print: the texts of its pieces in order
abbrev pub printed : {A : Type 0} → (ℕ → A) → List Piece → List (PieceArgument A) → List A
printed of_byte [] arguments = []
printed of_byte (p ∷ pieces) arguments = piece_text of_byte p (argument_if (wants p) arguments)
    ++ printed of_byte pieces (others_if (wants p) arguments)

-- why a piece refuses its argument, number k
abbrev pub refusal : {A : Type 0} → ℕ → Piece → Option (PieceArgument A) → Option PrintError
refusal k (Unsigned radix flags width precision) (Some (number (negsuc n))) = Some (Negative k)
refusal k (Byte flags width) (Some (number (negsuc n))) = Some (BadByte k)
refusal k (Byte flags width) (Some (number (pos n))) = if nat_lt n 256 then None else Some (BadByte k)
refusal k _ _ = None

abbrev pub first_of : Option PrintError → Option PrintError → Option PrintError
first_of None other = other
first_of (Some e) other = Some e

-- how many arguments a piece takes
abbrev pub count_if : Option ArgKind → ℕ
count_if None = 0
count_if (Some k) = 1

-- the first refusal from left to right, the arguments being counted from k
abbrev pub first_refusal : {A : Type 0} → ℕ → List Piece → List (PieceArgument A) → Option PrintError
first_refusal k [] arguments = None
first_refusal k (p ∷ pieces) arguments = first_of (refusal k p (argument_if (wants p) arguments))
    (first_refusal (k + count_if (wants p)) pieces (others_if (wants p) arguments))
