-- Names with numbers, their places in the list of all names, and sets of names by words.
use Rattle.std.specs.Prelude.{ℕ, List, Option, ◌≡◌, ◌+◌, ◌*◌, ◌-◌, ◌^◌, ◌<◌, ◌==◌, Bool, map, Some, sum_by}
use Rattle.cord_syntax.specs.declared.statements.Statement.{Statement}
use Rattle.cord_plan.specs.inner.Places.{AreLines, HasNumbers, IsNumber, place_in, place_of}
use Rattle.cord_plan.specs.declared.flow.numbering.LineNumbers.{LineNumbers}
use Rattle.cord_plan.specs.declared.flow.numbering.Numbering.{Numbering}
use Rattle.std.specs.Int.{bit_at}

abbrev pub names_of : Numbering → List (List ℕ)
names_of t = t.names.items

-- the number of a name, where there is one
abbrev pub number_of : Numbering → List ℕ → Option ℕ
number_of t x = place_of (names_of t) x

abbrev pub number_in : Numbering → Option (List ℕ) → Option ℕ
number_in t o = place_in (names_of t) o

abbrev pub IsNumberIn : Numbering → Option (List ℕ) → Option ℕ → Type 0
IsNumberIn t o number = IsNumber (names_of t) o number

-- these are the numbers of the names of a line; they are kept for each line of a script
abbrev pub IsNumbered : Numbering → Statement → LineNumbers → Type 0
IsNumbered t l numbers = HasNumbers (names_of t) l numbers

abbrev pub IsNumbering : List Statement → Numbering → Type 0
IsNumbering s t = AreLines s (names_of t) t.read.items t.lines.items

-- whether a word has a bit
abbrev pub bit : ℕ → ℕ → Bool
bit w i = bit_at w i == 1

-- x has this bit of the words of the group g
pub record IsBit (t : Numbering) (g : ℕ) (x : List ℕ) (i : ℕ) : Type 0 where
  pub within : i < 128
  pub number : number_of t x ≡ Some (128 * g + i)

-- the word has the bits of those names of the group that it holds of
abbrev pub Marks : Numbering → ℕ → (List ℕ → Bool) → ℕ → Type 0
Marks t g holds w = (x : List ℕ) (i : ℕ) → IsBit t g x i → bit w i ≡ holds x

-- whether the word of each place has a bit
abbrev pub column : List ℕ → ℕ → List Bool
column words i = map (λ w. bit w i) words

-- how far the words are from their greatest
abbrev pub room : List ℕ → ℕ
room words = sum_by (λ w. 2 ^ 128 - w) words
