-- The bytes of an extensible cord.
use Rattle.std.specs.Prelude.{ℕ, List, ◌++◌, take}
use Rattle.cord_c.specs.declared.extensible.Extensible.{Extensible}

-- those of its cord, and then those that are gathered
abbrev pub grown : Extensible → List ℕ
grown x = x.built.text ++ take x.count x.bytes
