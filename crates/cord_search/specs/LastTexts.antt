-- The last place of a text in another.
use Rattle.std.specs.Prelude.{ℕ, zero, suc, ◌+◌, ◌-◌, ◌<◌, List, length, drop, min, Option, Some, None, if◌then◌else◌}
use Rattle.cord_core.specs.Texts.{begins_with, StandsAt}

-- the greatest place below n where s stands in x, of which no place up to n is past the end
abbrev pub last_below : List ℕ → List ℕ → ℕ → Option ℕ
last_below x s zero = None
last_below x s (suc p) = if begins_with (drop p x) s then Some p else last_below x s p

-- the greatest place where s stands in x and ends at `end` or before
abbrev pub last_text : List ℕ → ℕ → List ℕ → Option ℕ
last_text x end s = last_below x s (min end (length x) + 1 - length s)

-- what `last_below` answers, said of places
abbrev pub IsLastBelow : List ℕ → List ℕ → ℕ → Option ℕ → Type 0
IsLastBelow x s n (Some p) = (p < n) × StandsAt x s p × ((q : ℕ) → p < q → q < n → StandsAt x s q → ⊥)
IsLastBelow x s n None = (q : ℕ) → q < n → StandsAt x s q → ⊥
