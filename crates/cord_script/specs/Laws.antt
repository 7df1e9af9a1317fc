-- Laws of scripts: each text is read or wrong, and what is read, and what is wrong, is one thing at most.
use Rattle.std.specs.Prelude.{◌≡◌, ◌⊎◌, ℕ, List}
use Rattle.cord_script.specs.declared.refusals.RefusalKind.{RefusalKind}
use Rattle.cord_syntax.specs.declared.statements.Statement.{Statement}
use Rattle.cord_script.specs.Forms.{Grammar}
use Rattle.cord_script.specs.Script.{ReadsBy, whole, without_branches}
use Rattle.cord_script.specs.FirstErrors.{FirstErrorBy}

-- A script that is read has no error.
abbrev pub ReadHasNoError : Type 0
ReadHasNoError = (g : Grammar) (b : List ℕ) (ss : List Statement) (n : ℕ) (kind : RefusalKind) → ReadsBy g b ss → FirstErrorBy g b n kind →
    ⊥

-- All bytes are read as a script or have an error.
abbrev pub ReadOrError : Type 0
ReadOrError = (g : Grammar) (b : List ℕ) → ((ss : List Statement) × ReadsBy g b ss) ⊎
    ((n : ℕ) × (kind : RefusalKind) × FirstErrorBy g b n kind)

-- At most one script is read from given bytes.
abbrev pub OneScript : Type 0
OneScript = (g : Grammar) (b : List ℕ) (ss more : List Statement) → ReadsBy g b ss → ReadsBy g b more → ss ≡ more

-- Bytes have at most one first error.
abbrev pub OneError : Type 0
OneError = (g : Grammar) (b : List ℕ) (m n : ℕ) (kind other : RefusalKind) → FirstErrorBy g b m kind → FirstErrorBy g b n other → (m ≡ n) ×
    (kind ≡ other)

-- A script that is read without branches is read with the same statements with them.
abbrev pub BranchesKeep : Type 0
BranchesKeep = (b : List ℕ) (ss : List Statement) → ReadsBy without_branches b ss → ReadsBy whole b ss
