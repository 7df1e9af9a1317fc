-- What the lines of a script read and assign.
use Rattle.std.specs.Prelude.{ℕ, suc, Bool, false, ◌||◌, List, [], ◌∷◌, if◌then◌else◌, Option, Some, None}
use Rattle.std.specs.Str.{bytes_eq}
use Rattle.cord_syntax.specs.declared.statements.Statement.{Statement}
pub use Rattle.cord_syntax.specs.Readings.{cord_arguments, read_by}
pub use Rattle.cord_syntax.specs.Targets.{target_of}

-- how many times a name stands in a list of names
abbrev pub count : List ℕ → List (List ℕ) → ℕ
count x [] = 0
count x (y ∷ ys) = if bytes_eq x y then suc (count x ys) else count x ys

-- whether a name stands in a list of names
abbrev pub has : List (List ℕ) → List ℕ → Bool
has [] x = false
has (y ∷ ys) x = bytes_eq x y || has ys x

abbrev pub is_this_name : Option (List ℕ) → List ℕ → Bool
is_this_name None x = false
is_this_name (Some y) x = bytes_eq x y

-- whether a line reads the bytes of a name, and whether it assigns it
abbrev pub reads : Statement → List ℕ → Bool
reads l x = has (read_by l) x

abbrev pub assigns : Statement → List ℕ → Bool
assigns l x = is_this_name (target_of l) x

-- the same of the line at a place; where there is no line, nothing is read or assigned
abbrev pub reads_at : Option Statement → List ℕ → Bool
reads_at None x = false
reads_at (Some l) x = reads l x

abbrev pub assigns_at : Option Statement → List ℕ → Bool
assigns_at None x = false
assigns_at (Some l) x = assigns l x
