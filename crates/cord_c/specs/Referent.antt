-- What lies behind a pointer, as a text, as a cord, as a text that is edited and as an index of lines.
use Rattle.std.specs.Prelude.{ℕ, List, [], Option, None}
use Rattle.cord_node.specs.declared.Node.{Node}
use Rattle.cord_lines.specs.Index.{Indexed, of_no_bytes}
use Rattle.cord_c.specs.declared.referent.Referent.{Referent}
use Rattle.cord_c.specs.declared.referent.Referent.TheVariants.{Nothing, Text, Cord, Editor, Lines}

-- the bytes of the text, none where there is none
abbrev pub text_by : Referent → List ℕ
text_by Nothing = []
text_by (Text t) = t
text_by (Cord c) = []
text_by (Editor t) = []
text_by (Lines i) = []

-- the cord, that of no bytes where there is none
abbrev pub cord_by : Referent → Option Node
cord_by Nothing = None
cord_by (Text t) = None
cord_by (Cord c) = c
cord_by (Editor t) = None
cord_by (Lines i) = None

-- the bytes of the text that is edited, none where there is none
abbrev pub edited_by : Referent → List ℕ
edited_by Nothing = []
edited_by (Text t) = []
edited_by (Cord c) = []
edited_by (Editor t) = t.value
edited_by (Lines i) = []

-- the index of lines, that of no bytes where there is none
abbrev pub index_by : Referent → Indexed
index_by Nothing = of_no_bytes
index_by (Text t) = of_no_bytes
index_by (Cord c) = of_no_bytes
index_by (Editor t) = of_no_bytes
index_by (Lines i) = i.value
