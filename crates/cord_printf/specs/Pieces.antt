-- What the pieces of a format are written as, and what they take.
use Rattle.std.specs.Prelude.{option_to_list, ◌≡◌, ◌≢◌, ℕ, ◌+◌, ◌*◌, ◌-◌, ◌≤◌, ◌==◌, ◌⊎◌, false, Option, Some, None, List, [], ◌∷◌, ◌++◌}
use Rattle.std.specs.Prelude.{All}
use Rattle.std.specs.List.{list_any}
use Rattle.cord_printf.specs.declared.TheConstants.{MAX_WIDTH}
use Rattle.cord_printf.specs.declared.pieces.ArgKind.{ArgKind}
use Rattle.cord_printf.specs.declared.pieces.ArgKind.TheVariants as kinds
use Rattle.cord_printf.specs.declared.pieces.Flags.{Flags}
use Rattle.cord_printf.specs.declared.pieces.Radix.{Radix}
use Rattle.cord_printf.specs.declared.pieces.Radix.TheVariants.{Decimal, Octal, LowerHex, UpperHex}
use Rattle.cord_printf.specs.declared.pieces.Piece.{Piece}
use Rattle.cord_printf.specs.declared.pieces.Piece.TheVariants.{Text, Signed, Unsigned, Byte, Cord, Percent}

-- the kind of argument that a piece takes
abbrev pub wants : Piece → Option ArgKind
wants (Text t) = None
wants (Signed flags width precision) = Some kinds.Number
wants (Unsigned radix flags width precision) = Some kinds.Number
wants (Byte flags width) = Some kinds.Number
wants (Cord flags width precision) = Some kinds.Cord
wants Percent = None

-- the kinds of the arguments that pieces take, in order
abbrev pub wanted : List Piece → List ArgKind
wanted [] = []
wanted (p ∷ ps) = option_to_list (wants p) ++ wanted ps

-- the parts of a conversion as it is written after its `%`
pub record Conversion : Type 0 where
  pub marks : List ℕ
  pub digits : List ℕ
  pub point : List ℕ
  pub modifier : List ℕ
  pub letter : ℕ

-- `%`, flags, width, precision, length modifier, letter
abbrev pub spelling : Conversion → List ℕ
spelling c = 37 ∷ c.marks ++ c.digits ++ c.point ++ c.modifier ++ c.letter ∷ []

abbrev pub IsDigit : ℕ → Type 0
IsDigit b = (48 ≤ b) × (b ≤ 57)

-- `-`, `0` or `+`
abbrev pub IsMark : ℕ → Type 0
IsMark b = (b ≡ 45) ⊎ (b ≡ 48) ⊎ (b ≡ 43)

-- the first byte, if there is one, isn't of a kind
abbrev pub StartsNo : (ℕ → Type 0) → List ℕ → Type 0
StartsNo P [] = Unit {0}
StartsNo P (b ∷ bs) = ¬ P b

-- the number that decimal digits write after those that write n
abbrev pub number_after : ℕ → List ℕ → ℕ
number_after n [] = n
number_after n (b ∷ bs) = number_after (10 * n + (b - 48)) bs

-- the number that decimal digits write; none write 0
abbrev pub number_of : List ℕ → ℕ
number_of digits = number_after 0 digits

-- which of the three flags stand, in any order, repeats allowed
abbrev pub flags_of : List ℕ → Flags
flags_of marks = record { left = list_any (λ b. b == 45) marks; zero = list_any (λ b. b == 48) marks; plus = list_any (λ b. b == 43) marks }

-- nothing, or `.` and digits or none, of a value of at most MAX_WIDTH
abbrev pub IsPoint : List ℕ → Option ℕ → Type 0
IsPoint point None = point ≡ []
IsPoint point (Some precision) = (digits : List ℕ) × (point ≡ 46 ∷ digits) × All IsDigit digits × (precision ≡ number_of digits) ×
    (precision ≤ MAX_WIDTH)

-- nothing, `l` or `ll`
abbrev pub IsModifier : List ℕ → Type 0
IsModifier m = (m ≡ []) ⊎ (m ≡ 108 ∷ []) ⊎ (m ≡ 108 ∷ 108 ∷ [])

-- the letter of an unsigned conversion
abbrev pub radix_letter : Radix → ℕ
radix_letter Decimal = 117
radix_letter Octal = 111
radix_letter LowerHex = 120
radix_letter UpperHex = 88

-- the flags and the width are those of the conversion
pub record HasWidth (c : Conversion) (flags : Flags) (width : ℕ) : Type 0 where
  pub marks : All IsMark c.marks
  pub flags_are : flags ≡ flags_of c.marks
  pub digits : All IsDigit c.digits
  pub no_zero : StartsNo (λ b. b ≡ 48) c.digits
  pub width_is : width ≡ number_of c.digits
  pub small : width ≤ MAX_WIDTH

-- the conversion is written for the piece
abbrev pub Spells : Conversion → Piece → Type 0
Spells c (Text t) = ⊥
Spells c (Signed flags width precision) = HasWidth c flags width × IsPoint c.point precision × IsModifier c.modifier ×
    ((c.letter ≡ 100) ⊎ (c.letter ≡ 105))
Spells c (Unsigned radix flags width precision) = HasWidth c flags width × IsPoint c.point precision × IsModifier c.modifier ×
    (c.letter ≡ radix_letter radix) × (flags.plus ≡ false)
Spells c (Byte flags width) = HasWidth c flags width × (c.point ≡ []) × (c.modifier ≡ []) × (c.letter ≡ 99) × (flags.zero ≡ false) ×
    (flags.plus ≡ false)
Spells c (Cord flags width precision) = HasWidth c flags width × IsPoint c.point precision × (c.modifier ≡ []) ×
    ((c.letter ≡ 115) ⊎ (c.letter ≡ 114)) × (flags.zero ≡ false) × (flags.plus ≡ false)
Spells c Percent = (c.marks ≡ []) × (c.digits ≡ []) × (c.point ≡ []) × (c.modifier ≡ []) × (c.letter ≡ 37)

-- the bytes are written for the piece, before these others
abbrev pub IsPiece : List ℕ → Piece → List ℕ → Type 0
IsPiece w (Text t) rest = (w ≡ t) × (t ≢ []) × All (λ b. b ≢ 37) t × StartsNo (λ b. b ≢ 37) rest
IsPiece w p rest = (c : Conversion) × (w ≡ spelling c) × Spells c p
