-- What a cord is over a table, and lists of cords.
use Rattle.std.specs.Prelude.{ℕ, ◌+◌, List, [], ◌∷◌, ◌++◌, Option, Some, None, ⊤}
use Rattle.cord_io.specs.Table.{Table, Lengths}
use Rattle.cord_node.specs.declared.Node.{Node}
use Rattle.cord_node.specs.Tree.{Cell}
use Rattle.cord_node.specs.Tables.{bytes_over, FitsIn, lengths_of}
use Rattle.cord_node.specs.PartsFrom.{Part}
pub use Rattle.cord_node.specs.Cords.{text, text_len, depth, parts_of, IsCord}

-- the text of a cord over a table
abbrev pub bytes_of : Table → Option Node → List ℕ
bytes_of t None = []
bytes_of t (Some n) = bytes_over t n

-- each function part of it lies inside a source of this length
abbrev pub CordFitsIn : Lengths → Option Node → Type 0
CordFitsIn lengths None = ⊤
CordFitsIn lengths (Some n) = FitsIn lengths n

-- each function part of it lies inside a source of the table
abbrev pub CordFits : Table → Option Node → Type 0
CordFits t c = CordFitsIn (lengths_of t) c

-- the texts of a list of cords, one after another
abbrev pub all_text : List (Option Node) → List Cell
all_text [] = []
all_text (c ∷ cs) = text c ++ all_text cs

-- their lengths together
abbrev pub all_len : List (Option Node) → ℕ
all_len [] = 0
all_len (c ∷ cs) = text_len c + all_len cs

-- their parts, one after another
abbrev pub all_parts : List (Option Node) → List Part
all_parts [] = []
all_parts (c ∷ cs) = parts_of c ++ all_parts cs

-- their texts over a table, one after another
abbrev pub all_bytes : Table → List (Option Node) → List ℕ
all_bytes t [] = []
all_bytes t (c ∷ cs) = bytes_of t c ++ all_bytes t cs

-- each of them fits these lengths
abbrev pub AllFitIn : Lengths → List (Option Node) → Type 0
AllFitIn lengths [] = ⊤
AllFitIn lengths (c ∷ cs) = CordFitsIn lengths c × AllFitIn lengths cs
