-- How the bytes of a format are read: in the longest spans.
use Rattle.std.specs.Prelude.{◌≡◌, ◌≢◌, ◌≤◌, ℕ, ◌⊎◌, false, Option, List, [], ◌∷◌, ◌++◌, length, All}
use Rattle.cord_printf.specs.declared.reading.Class.{Class}
use Rattle.cord_printf.specs.declared.reading.Class.TheVariants.{Mark, Digit, Long, Plain}
use Rattle.cord_printf.specs.declared.pieces.Flags.{Flags}
use Rattle.cord_printf.specs.declared.pieces.Piece.{Piece}
use Rattle.cord_printf.specs.declared.pieces.Piece.TheVariants.{Text, Signed, Unsigned, Byte, Cord, Percent}
use Rattle.cord_printf.specs.Pieces.{radix_letter, IsMark, IsDigit, StartsNo}

-- the bytes of a class
abbrev pub IsOf : Class → ℕ → Type 0
IsOf Mark b = IsMark b
IsOf Digit b = IsDigit b
IsOf Long b = b ≡ 108
IsOf Plain b = b ≢ 37

-- `.` and as many digits as there are, or nothing where no `.` stands, and what follows
abbrev pub IsDotted : List ℕ → List ℕ → List ℕ → Type 0
IsDotted b point rest =
    (b ≡ point ++ rest)
    × (((point ≡ []) × StartsNo (λ c. c ≡ 46) rest)
    ⊎ ((digits : List ℕ) × (point ≡ 46 ∷ digits) × All IsDigit digits × StartsNo IsDigit rest))

-- the parts after a `%`, each as long as possible
pub record AreParts (b marks digits point modifier rest : List ℕ) : Type 0 where
  pub after_marks : List ℕ
  pub after_digits : List ℕ
  pub after_point : List ℕ
  pub marks_whole : b ≡ marks ++ after_marks
  pub marks_all : All IsMark marks
  pub marks_end : StartsNo IsMark after_marks
  pub digits_whole : after_marks ≡ digits ++ after_digits
  pub digits_all : All IsDigit digits
  pub digits_end : StartsNo IsDigit after_digits
  pub dotted : IsDotted after_digits point after_point
  pub modifier_whole : after_point ≡ modifier ++ rest
  pub modifier_all : All (λ c. c ≡ 108) modifier
  pub modifier_end : StartsNo (λ c. c ≡ 108) rest

-- a letter stands for the piece, with these flags, width and precision
abbrev pub IsLettered : ℕ → Flags → ℕ → Option ℕ → Piece → Type 0
IsLettered letter flags width precision (Text t) = ⊥
IsLettered letter flags width precision (Signed f w p) = (f ≡ flags) × (w ≡ width) × (p ≡ precision) × ((letter ≡ 100) ⊎ (letter ≡ 105))
IsLettered letter flags width precision (Unsigned r f w p) = (f ≡ flags) × (w ≡ width) × (p ≡ precision) × (letter ≡ radix_letter r)
IsLettered letter flags width precision (Byte f w) = (f ≡ flags) × (w ≡ width) × (letter ≡ 99)
IsLettered letter flags width precision (Cord f w p) = (f ≡ flags) × (w ≡ width) × (p ≡ precision) × ((letter ≡ 115) ⊎ (letter ≡ 114))
IsLettered letter flags width precision Percent = letter ≡ 37

-- no conversion has this letter
abbrev pub IsNoLetter : ℕ → Type 0
IsNoLetter b = (b ≢ 100) × (b ≢ 105) × (b ≢ 117) × (b ≢ 111) × (b ≢ 120) × (b ≢ 88) × (b ≢ 99) × (b ≢ 115) × (b ≢ 114) × (b ≢ 37)

-- the piece may be written with these parts
abbrev pub IsAllowedSpelling : Piece → (marks digits point modifier : List ℕ) → Type 0
IsAllowedSpelling (Text t) marks digits point modifier = ⊥
IsAllowedSpelling (Signed flags width precision) marks digits point modifier = length modifier ≤ 2
IsAllowedSpelling (Unsigned radix flags width precision) marks digits point modifier = (flags.plus ≡ false) × (length modifier ≤ 2)
IsAllowedSpelling (Byte flags width) marks digits point modifier = (flags.zero ≡ false) × (flags.plus ≡ false) × (point ≡ []) × (modifier ≡ [])
IsAllowedSpelling (Cord flags width precision) marks digits point modifier = (flags.zero ≡ false) × (flags.plus ≡ false) × (modifier ≡ [])
IsAllowedSpelling Percent marks digits point modifier = (marks ≡ []) × (digits ≡ []) × (point ≡ []) × (modifier ≡ [])

-- what stands where a precision may
abbrev pub IsPointed : List ℕ → Type 0
IsPointed point = (point ≡ []) ⊎ ((digits : List ℕ) × (point ≡ 46 ∷ digits) × All IsDigit digits)
