-- Lines: they end with the byte 10, which the last one may lack.
use Rattle.std.specs.Prelude.{◌≡◌, ℕ, ◌==◌, Bool, List, [], ◌∷◌, map, Option, MatchOption, IfOk, if◌then◌else◌}
use Rattle.std.specs.declared.alloc.AllocError.{AllocError}
use Rattle.std.specs.declared.result.Result.{Result}

-- one byte more before the first line
abbrev pub led_by : ℕ → List (List ℕ) → List (List ℕ)
led_by b [] = (b ∷ []) ∷ []
led_by b (line ∷ others) = (b ∷ line) ∷ others

-- the lines of a text, each with its end
abbrev pub lines : List ℕ → List (List ℕ)
lines [] = []
lines (b ∷ x) = if b == 10 then (b ∷ []) ∷ lines x else led_by b (lines x)

-- a line without its end: the bytes before the first 10
abbrev pub bare : List ℕ → List ℕ
bare [] = []
bare (b ∷ line) = if b == 10 then [] else b ∷ bare line

abbrev pub bare_lines : List ℕ → List (List ℕ)
bare_lines x = map bare (lines x)

-- the lines with their ends or without
abbrev pub lines_as : Bool → List ℕ → List (List ℕ)
lines_as with_ends x = if with_ends then lines x else bare_lines x

-- a call that gave the first of the lines that were left, or out of memory in its place, or nothing where none was
abbrev pub GivesLine : List (List ℕ) → Option (Result (List ℕ) AllocError) → List (List ℕ) → Type 0
GivesLine old answer new =
    MatchOption answer ((old ≡ []) × (new ≡ [])) (λ made. (line : List ℕ) × (old ≡ line ∷ new) × IfOk made (λ t. t ≡ line))
