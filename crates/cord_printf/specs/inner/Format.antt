-- Where reading a format stops.
use Rattle.std.specs.Prelude.{◌≡◌, ℕ, List, ◌∷◌}
use Rattle.cord_printf.specs.declared.errors.FormatError.{FormatError}
use Rattle.cord_printf.specs.declared.errors.FormatError.TheVariants.{BadFormat, NoMemory}
use Rattle.cord_printf.specs.Format.{BeginsConversion}

-- the bytes at this offset begin with `%` and with no conversion
abbrev pub IsBadHere : List ℕ → ℕ → FormatError → Type 0
IsBadHere b offset (BadFormat o) = (o ≡ offset) × ((rest : List ℕ) × (b ≡ 37 ∷ rest)) × ¬ BeginsConversion b
IsBadHere b offset NoMemory = Unit {0}
