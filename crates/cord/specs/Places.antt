-- Places in a text.
use Rattle.std.specs.Prelude.{◌≡◌, ℕ, zero, suc, List, ◌++◌, Option, None}
use Rattle.cord_core.specs.Texts.{last}

-- the greatest place before `end` where x has the byte c
abbrev pub last_before : List ℕ → ℕ → ℕ → Option ℕ
last_before x zero c = None
last_before x (suc i) c = last x i c

-- x begins with s
abbrev pub BeginsWith : List ℕ → List ℕ → Type 0
BeginsWith x s = (rest : List ℕ) × (x ≡ s ++ rest)

-- x ends with s
abbrev pub EndsWith : List ℕ → List ℕ → Type 0
EndsWith x s = (prefix : List ℕ) × (x ≡ prefix ++ s)
