-- The texts that handles edit.
use Rattle.std.specs.Prelude.{ℕ, List}
use Rattle.cord_c.specs.Referent.{edited_by}
use Rattle.cord_c.specs.declared.editor.Editor.{Editor}

-- the bytes of a handle
abbrev pub edited_of : Editor → List ℕ
edited_of x = edited_by x.handle.referent
