-- Formats: lists of pieces.
use Rattle.std.specs.Prelude.{◌≡◌, ℕ, List, [], ◌∷◌, ◌++◌, length}
use Rattle.cord_printf.specs.declared.errors.FormatError.{FormatError}
use Rattle.cord_printf.specs.declared.errors.FormatError.TheVariants.{BadFormat, NoMemory}
use Rattle.cord_printf.specs.declared.pieces.Piece.{Piece}
use Rattle.cord_printf.specs.Pieces.{IsPiece, Conversion, spelling, Spells}

-- the bytes are these pieces and what follows them
abbrev pub HasPieces : List ℕ → List Piece → List ℕ → Type 0
HasPieces b [] after = b ≡ after
HasPieces b (p ∷ ps) after = (w rest : List ℕ) × (b ≡ w ++ rest) × IsPiece w p rest × HasPieces rest ps after

-- *format*: the bytes are these pieces: texts without `%`, none empty and each as long as possible, and conversions
abbrev pub IsFormat : List ℕ → List Piece → Type 0
IsFormat b pieces = HasPieces b pieces []

-- a conversion at the front is written for the piece, before the rest
abbrev pub Converts : List ℕ → Piece → List ℕ → Type 0
Converts b p rest = (c : Conversion) × Spells c p × (b ≡ spelling c ++ rest)

-- some conversion stands at the front
abbrev pub BeginsConversion : List ℕ → Type 0
BeginsConversion b = (p : Piece) × (rest : List ℕ) × Converts b p rest

-- at this offset, after whole pieces, stands a `%` that begins no conversion
pub record IsBadAt (b : List ℕ) (offset : ℕ) : Type 0 where
  pub pieces : List Piece
  pub prefix : List ℕ
  pub rest : List ℕ
  pub whole : b ≡ prefix ++ 37 ∷ rest
  pub read : HasPieces b pieces (37 ∷ rest)
  pub offset_is : length prefix ≡ offset
  pub bad : ¬ BeginsConversion (37 ∷ rest)

-- what is known where bytes are refused as a format
abbrev pub IsFormatRefusal : List ℕ → FormatError → Type 0
IsFormatRefusal b (BadFormat offset) = IsBadAt b offset
IsFormatRefusal b NoMemory = Unit {0}
