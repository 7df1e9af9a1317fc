-- Laws of formats.
use Rattle.std.specs.Prelude.{◌≡◌, ◌<◌, ◌⊎◌, ℕ, List, slice_index_or}
use Rattle.std.specs.Int.Digits.{digits_of, number_from_digits, AllBelowBase}
use Rattle.cord_printf.specs.declared.pieces.Radix.{Radix}
use Rattle.cord_printf.specs.PieceText.{base_of}
use Rattle.cord_printf.specs.declared.pieces.Piece.{Piece}
use Rattle.cord_printf.specs.Format.{IsFormat, IsBadAt}

-- bytes are one list of pieces at most
abbrev pub OneFormat : Type 0
OneFormat = (b : List ℕ) (ps qs : List Piece) → IsFormat b ps → IsFormat b qs → ps ≡ qs

-- where a bad conversion stands, the bytes are no format, and it stands at one offset only
abbrev pub BadIsNoFormat : Type 0
BadIsNoFormat = (b : List ℕ) (offset : ℕ) → IsBadAt b offset → (ps : List Piece) → ¬ IsFormat b ps

abbrev pub OneBadOffset : Type 0
OneBadOffset = (b : List ℕ) (m n : ℕ) → IsBadAt b m → IsBadAt b n → m ≡ n

-- bytes are a format, or a bad conversion stands in them
abbrev pub FormatOrBad : Type 0
FormatOrBad = (b : List ℕ) → ((ps : List Piece) × IsFormat b ps) ⊎ ((offset : ℕ) × IsBadAt b offset)

-- the digits of a number write it in their base, each is below the base, and the first isn't 0: 0 has none
pub record IsNumeral (base n : ℕ) (digits : List ℕ) : Type 0 where
  pub value : number_from_digits base digits ≡ n
  pub below : AllBelowBase base digits
  pub first : 0 < n → 0 < slice_index_or digits 0 0

abbrev pub DigitsWriteNumbers : Type 0
DigitsWriteNumbers = (radix : Radix) (n : ℕ) → IsNumeral (base_of radix) n (digits_of (base_of radix) n)
