-- What edits mean, in lists of bytes.
use Rattle.std.specs.Prelude.{◌≡◌, ℕ, ◌+◌, ◌≤◌, List, [], ◌∷◌, ◌++◌, Some, length, take, drop}
use Rattle.cord_core.specs.Texts.{first}
use Rattle.examples.specs.declared.editor.edit.Edit.{Edit}
use Rattle.examples.specs.declared.editor.edit.Edit.TheVariants.{Append, Insert, Delete, Replace}

-- the edit makes the text `new` of the text `old`; 10 is the end of a line
abbrev pub IsEdited : Edit → List ℕ → List ℕ → Type 0
IsEdited (Append line) old new = new ≡ old ++ line.now ++ 10 ∷ []
IsEdited (Insert place added) old new = (place ≤ length old) × (new ≡ take place old ++ added.now ++ drop place old)
IsEdited (Delete place count) old new = (place + count ≤ length old) × (new ≡ take place old ++ drop (place + count) old)
IsEdited (Replace wanted other) old new = (place : ℕ) × (first old 0 wanted.now ≡ Some place) ×
    (new ≡ take place old ++ other.now ++ drop (place + length wanted.now) old)
