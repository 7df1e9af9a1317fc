-- Places of names in a list, and lists of them.
use Rattle.std.specs.Prelude.{◌≡◌, ℕ, suc, ◌-◌, ◌≤◌, List, [], ◌∷◌, ◌++◌, if◌then◌else◌, length, map, take, drop, Option, Some, None}
use Rattle.std.specs.Prelude.{option_map, slice_get}
use Rattle.std.specs.List.{IsDistinct}
use Rattle.std.specs.Str.{bytes_eq}
use Rattle.cord_syntax.specs.declared.statements.Statement.{Statement}
use Rattle.cord_plan.specs.Operands.{read_by, target_of}
use Rattle.cord_plan.specs.declared.flow.numbering.LineNumbers.{LineNumbers}
use Rattle.cord_plan.specs.declared.flow.numbering.NumberedLine.{NumberedLine}

-- the first place of a name
abbrev pub place_of : List (List ℕ) → List ℕ → Option ℕ
place_of [] x = None
place_of (y ∷ ys) x = if bytes_eq x y then Some 0 else option_map suc (place_of ys x)

abbrev pub place_in : List (List ℕ) → Option (List ℕ) → Option ℕ
place_in names None = None
place_in names (Some x) = place_of names x

-- these are places of these names, and this is one of a name, where there is one
abbrev pub AreNumbers : List (List ℕ) → List (List ℕ) → List ℕ → Type 0
AreNumbers names xs numbers = map (λ n. slice_get names n) numbers ≡ map Some xs

abbrev pub IsNumber : List (List ℕ) → Option (List ℕ) → Option ℕ → Type 0
IsNumber names o number = option_map (λ n. slice_get names n) number ≡ option_map Some o

-- a list of names comes to have more
pub record GainsNames (old new : List (List ℕ)) : Type 0 where
  pub remains : (n : ℕ) (x : List ℕ) → slice_get old n ≡ Some x → slice_get new n ≡ Some x
  pub distinct : IsDistinct bytes_eq old → IsDistinct bytes_eq new

-- it has a name at a place then
pub record TakesNumber (x : List ℕ) (n : ℕ) (old new : List (List ℕ)) : Type 0 where
  pub grows : GainsNames old new
  pub is : slice_get new n ≡ Some x

-- it has these names, and places of them come to stand in a list of numbers
pub record AddsPlaces (xs old new : List (List ℕ)) (before after : List ℕ) : Type 0 where
  pub grows : GainsNames old new
  pub numbers : List ℕ
  pub noted : after ≡ before ++ numbers
  pub are : AreNumbers new xs numbers

-- the number of the name that a line assigns, and those of the names that it reads
pub record IsNumberedLine (names : List (List ℕ)) (read : List ℕ) (l : Statement) (line : NumberedLine) : Type 0 where
  pub target : IsNumber names (target_of l) line.target
  pub order : line.start ≤ line.end
  pub within : line.end ≤ length read
  pub reads : AreNumbers names (read_by l) (take (line.end - line.start) (drop line.start read))

-- they have come to stand there
pub record AddsLine (l : Statement) (old new : List (List ℕ)) (before after : List ℕ) (line : NumberedLine) : Type 0 where
  pub grows : GainsNames old new
  pub numbers : List ℕ
  pub noted : after ≡ before ++ numbers
  pub is : IsNumberedLine new after l line

-- that of a line at a place, and of each line of a script
abbrev pub IsLineIn : List (List ℕ) → List ℕ → List NumberedLine → Statement → ℕ → Type 0
IsLineIn names read lines l p = (line : NumberedLine) × (slice_get lines p ≡ Some line) × IsNumberedLine names read l line

abbrev pub AreLines : List Statement → List (List ℕ) → List ℕ → List NumberedLine → Type 0
AreLines s names read lines = (p : ℕ) (l : Statement) → slice_get s p ≡ Some l → IsLineIn names read lines l p

-- these are the numbers of the names of a line
pub record HasNumbers (names : List (List ℕ)) (l : Statement) (numbers : LineNumbers) : Type 0 where
  pub target : IsNumber names (target_of l) numbers.target
  pub read : AreNumbers names (read_by l) numbers.read.now
