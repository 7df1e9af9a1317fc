-- The lines of a script, and the words of a line.
use Rattle.std.specs.Prelude.{◌≡◌, ◌≢◌, ℕ, ◌+◌, ◌*◌, ◌≤◌, ◌⊎◌, List, [], ◌∷◌, ◌++◌, length, All}
use Rattle.cord_script.specs.declared.TheConstants.{MAX_TEXT}
use Rattle.cord_script.specs.declared.words.Word.{Word}
use Rattle.cord_script.specs.declared.words.Word.TheVariants.{Plain, Quoted}
use Rattle.cord_script.specs.declared.refusals.RefusalKind.{RefusalKind}
use Rattle.cord_script.specs.declared.refusals.RefusalKind.TheVariants.{Unterminated, BadEscape, LiteralTooLong}

-- The lines are what stands between the bytes 10; what follows the last byte 10 is a line where it isn't empty.
abbrev pub IsSplit : List ℕ → List (List ℕ) → Type 0
IsSplit b [] = b ≡ []
IsSplit b (line ∷ lines) = All (λ c. c ≢ 10) line × (((lines ≡ []) × (line ≢ []) × (b ≡ line)) ⊎
    ((rest : List ℕ) × (b ≡ line ++ 10 ∷ rest) × IsSplit rest lines))

-- Blanks are the bytes 32, 9 and 13.
abbrev pub IsBlank : ℕ → Type 0
IsBlank c = (c ≡ 32) ⊎ (c ≡ 9) ⊎ (c ≡ 13)

-- A line of blanks alone, and one whose first other byte is `#`, is no statement.
abbrev pub IsIdle : List ℕ → Type 0
IsIdle line = All IsBlank line ⊎ ((prefix rest : List ℕ) × All IsBlank prefix × (line ≡ prefix ++ 35 ∷ rest))

-- The value of a hexadecimal digit, of either case.
abbrev pub HexDigit : ℕ → ℕ → Type 0
HexDigit c v = ((48 ≤ c) × (c ≤ 57) × (c ≡ 48 + v)) ⊎ ((97 ≤ c) × (c ≤ 102) × (c ≡ 87 + v)) ⊎ ((65 ≤ c) × (c ≤ 70) × (c ≡ 55 + v))

-- A part of a quoted word that stands for one byte: a byte except `"` and `\` for itself, or one of the escapes
-- `\\`, `\"`, `\n`, `\t` and `\xHH`.
abbrev pub Stands : List ℕ → ℕ → Type 0
Stands u b =
    ((u ≡ b ∷ []) × (b ≢ 34) × (b ≢ 92))
    ⊎ ((u ≡ 92 ∷ 92 ∷ []) × (b ≡ 92))
    ⊎ ((u ≡ 92 ∷ 34 ∷ []) × (b ≡ 34))
    ⊎ ((u ≡ 92 ∷ 110 ∷ []) × (b ≡ 10))
    ⊎ ((u ≡ 92 ∷ 116 ∷ []) × (b ≡ 9))
    ⊎ ((h l x y : ℕ) × (u ≡ 92 ∷ 120 ∷ h ∷ l ∷ []) × HexDigit h x × HexDigit l y × (b ≡ 16 * x + y))

-- The inside of a quoted word stands for a text.
abbrev pub SpellsText : List ℕ → List ℕ → Type 0
SpellsText w [] = w ≡ []
SpellsText w (b ∷ text) = (u v : List ℕ) × (w ≡ u ++ v) × Stands u b × SpellsText v text

-- A byte of a plain word is neither a blank nor `"`.
abbrev pub IsPlainByte : ℕ → Type 0
IsPlainByte c = ¬ IsBlank c × (c ≢ 34)

-- A plain word is as long as it can be: what follows it is no byte of it.
abbrev pub EndsPlain : List ℕ → Type 0
EndsPlain [] = Unit {0}
EndsPlain (c ∷ rest) = ¬ IsPlainByte c

-- One word stands after blanks, before the rest: a plain word as its bytes, a quoted one as the text that it spells.
abbrev pub HasWord : List ℕ → Word → List ℕ → Type 0
HasWord line (Plain p) rest = (prefix : List ℕ) × All IsBlank prefix × (line ≡ prefix ++ p ++ rest) × (p ≢ []) × All IsPlainByte p × EndsPlain
    rest
HasWord line (Quoted text) rest = (prefix w : List ℕ) × All IsBlank prefix × (line ≡ prefix ++ 34 ∷ w ++ 34 ∷ rest) × SpellsText w text ×
    (length text ≤ MAX_TEXT)

-- These words stand at the prefix of a line, before the rest.
abbrev pub StartsWith : List ℕ → List Word → List ℕ → Type 0
StartsWith line [] rest = line ≡ rest
StartsWith line (word ∷ words) rest = (suffix : List ℕ) × HasWord line word suffix × StartsWith suffix words rest

-- These are the words of a line.
abbrev pub HasWords : List ℕ → List Word → Type 0
HasWords line words = (rest : List ℕ) × StartsWith line words rest × All IsBlank rest

-- How a quoted word ends that is none, after the text that its bytes spell: at a `\`, itself no part of an escape,
-- that begins none of the escapes; at the 65,536th byte of the word; at the end of the line.
abbrev pub IsBadEnd : List ℕ → List ℕ → RefusalKind → Type 0
IsBadEnd text rest kind =
    ((kind ≡ BadEscape) × ((suffix : List ℕ) × (rest ≡ 92 ∷ suffix)) × ((u v : List ℕ) (b : ℕ) → rest ≡ u ++ v → ¬ Stands u b))
    ⊎ ((kind ≡ LiteralTooLong) × (length text ≡ MAX_TEXT) × ((u v : List ℕ) × (b : ℕ) × (rest ≡ u ++ v) × Stands u b))
    ⊎ ((kind ≡ Unterminated) × (rest ≡ []))

-- What is wrong after the first quote of a quoted word, the bytes being read from left to right.
abbrev pub IsBadText : List ℕ → RefusalKind → Type 0
IsBadText inner kind = (w rest text : List ℕ) × (inner ≡ w ++ rest) × SpellsText w text × (length text ≤ MAX_TEXT) × IsBadEnd text rest kind

-- The next word is a quoted word that is none.
abbrev pub BeginsBadText : List ℕ → RefusalKind → Type 0
BeginsBadText rest kind = (prefix inner : List ℕ) × All IsBlank prefix × (rest ≡ prefix ++ 34 ∷ inner) × IsBadText inner kind

-- The bytes of a line have an error: after whole words a quoted word begins that is none.
abbrev pub HasBadBytes : List ℕ → RefusalKind → Type 0
HasBadBytes line kind = (words : List Word) × (rest : List ℕ) × StartsWith line words rest × BeginsBadText rest kind
