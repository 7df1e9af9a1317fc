-- What a piece shows: blanks, a sign, zeros, its body, blanks.
use Rattle.std.specs.Prelude.{ℕ, ◌+◌, Option, Some, None, List, [], ◌∷◌, ◌++◌, length, map, replicate, take}
use Rattle.std.specs.Prelude.{◌≡◌, ◌-◌, option_to_list, unwrap_or}
use Rattle.cord_node.specs.Tree.{Cell, known}
use Rattle.cord_node.specs.PartsFrom.{Part}
use Rattle.cord_core.specs.Cord.{text, parts_of}
use Rattle.cord_ec.specs.Gathered.{Growth}
use Rattle.cord_printf.specs.declared.piece_text.Layout.{Layout}
use Rattle.cord_printf.specs.declared.piece_text.Body.{Body}
use Rattle.cord_printf.specs.declared.piece_text.Body.TheVariants.{Bytes, Byte, Digits, Start}
use Rattle.cord_printf.specs.declared.piece_text.Shown.{Shown}
use Rattle.cord_printf.specs.declared.pieces.Flags.{Flags}
use Rattle.cord_printf.specs.PieceText.{number_text}

-- what stands in front of a body
abbrev pub prefix_of : Layout → List ℕ
prefix_of l = replicate l.before 32 ++ option_to_list l.sign ++ replicate l.zeros 48

abbrev pub body_text : Body → List Cell
body_text (Bytes b) = map known b.now
body_text (Byte b) = known b ∷ []
body_text (Digits d) = map known d
body_text (Start c len) = take len (text c.now)

-- the cells that are printed
abbrev pub shown_text : Shown → List Cell
shown_text s = map known (prefix_of s.layout) ++ body_text s.body ++ map known (replicate s.layout.after 32)

-- the parts of the cord of a body, and how many bytes it has beside a cord's
abbrev pub body_parts : Body → List Part
body_parts (Bytes b) = []
body_parts (Byte b) = []
body_parts (Digits d) = []
body_parts (Start c len) = parts_of c.now

abbrev pub body_own : Body → ℕ
body_own (Bytes b) = length b.now
body_own (Byte b) = 1
body_own (Digits d) = length d
body_own (Start c len) = 0

-- the text of a body that comes from a cord
abbrev pub body_taken : Body → List Cell
body_taken (Bytes b) = []
body_taken (Byte b) = []
body_taken (Digits d) = []
body_taken (Start c len) = take len (text c.now)

-- how many bytes are printed beside a cord's
abbrev pub shown_own : Shown → ℕ
shown_own s = length (prefix_of s.layout) + body_own s.body + s.layout.after

-- the parts of a text that may not have begun
abbrev pub parts_in : Option Growth → List Part
parts_in None = []
parts_in (Some growth) = growth.parts

-- the cells of a text that may not have begun
abbrev pub cells_of : Option Growth → List Cell
cells_of None = []
cells_of (Some growth) = growth.text

-- a body, with what stands in front of it and the blanks after it
abbrev pub framed : Layout → List ℕ → List ℕ
framed l body = prefix_of l ++ body ++ replicate l.after 32

-- the layout makes the text of a number from each run of so many digits
abbrev pub IsNumberLayout : Flags → ℕ → Option ℕ → Option ℕ → ℕ → Layout → Type 0
IsNumberLayout flags width precision sign count layout =
    (digits : List ℕ) → length digits ≡ count → framed layout digits ≡ number_text flags width precision (option_to_list sign)
    (replicate (unwrap_or precision 1 - length digits) 48 ++ digits)
