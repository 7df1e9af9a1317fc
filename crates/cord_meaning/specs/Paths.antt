-- Paths: which place may come next after which, whatever the counts and comparisons.
use Rattle.std.specs.Prelude.{◌≡◌, ◌⊎◌, ℕ, zero, suc, ◌+◌, List, [], ◌∷◌, Option, Some, None, slice_get}
use Rattle.cord_meaning.specs.Blocks.{Shape, Straight, Loop, Branch, Otherwise, Close, jump}

-- the open blocks, the innermost first, after a statement at place p: the place of a `repeat`, or none for an `if`
abbrev pub opened : ℕ → List (Option ℕ) → Option Shape → List (Option ℕ)
opened p blocks (Some Loop) = Some p ∷ blocks
opened p blocks (Some Branch) = None ∷ blocks
opened p [] (Some Close) = []
opened p (b ∷ blocks) (Some Close) = blocks
opened p blocks (Some Straight) = blocks
opened p blocks (Some Otherwise) = blocks
opened p blocks None = blocks

-- the blocks that are open before a place
abbrev pub open_at : List Shape → ℕ → List (Option ℕ)
open_at shapes zero = []
open_at shapes (suc p) = opened p (open_at shapes p) (slice_get shapes p)

-- what may come after an `end` at place p, where these blocks are open: the next place, and the first one of the body where it is the `end`
-- of a `repeat`
abbrev pub NextOfClose : ℕ → List (Option ℕ) → ℕ → Type 0
NextOfClose p [] q = q ≡ p + 1
NextOfClose p (None ∷ blocks) q = q ≡ p + 1
NextOfClose p (Some r ∷ blocks) q = (q ≡ r + 1) ⊎ (q ≡ p + 1)

-- what may come after a statement of a shape
abbrev pub NextOf : List Shape → ℕ → Option Shape → ℕ → Type 0
NextOf shapes p None q = ⊥
NextOf shapes p (Some Straight) q = q ≡ p + 1
NextOf shapes p (Some Loop) q = (q ≡ p + 1) ⊎ (q ≡ jump shapes p)
NextOf shapes p (Some Branch) q = (q ≡ p + 1) ⊎ (q ≡ jump shapes p)
NextOf shapes p (Some Otherwise) q = q ≡ jump shapes p
NextOf shapes p (Some Close) q = NextOfClose p (open_at shapes p) q

-- q may come next after p
abbrev pub Next : List Shape → ℕ → ℕ → Type 0
Next shapes p q = NextOf shapes p (slice_get shapes p) q
