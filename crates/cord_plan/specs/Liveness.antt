-- Which names are read on a path after a line before they are assigned again.
use Rattle.std.specs.Prelude.{◌≡◌, ℕ, zero, suc, ◌+◌, Bool, true, false, not, ◌&&◌, ◌||◌, List, [], ◌∷◌, map, Option, Some, None, slice_get}
use Rattle.cord_syntax.specs.declared.statements.Statement.{Statement}
use Rattle.cord_meaning.specs.Blocks.{Shape, Straight, Loop, Branch, Otherwise, Close, jump}
use Rattle.cord_meaning.specs.Paths.{Next, open_at}
use Rattle.cord_meaning.specs.Statements.{shape_of}
use Rattle.cord_plan.specs.Operands.{reads_at, assigns_at}

-- the path from p over these places ends at a line that reads the bytes of x, and no line before that one assigns x
abbrev pub ReadBy : List Statement → List ℕ → ℕ → List ℕ → Type 0
ReadBy s x p [] = reads_at (slice_get s p) x ≡ true
ReadBy s x p (q ∷ path) = (assigns_at (slice_get s p) x ≡ false) × Next (map shape_of s) p q × ReadBy s x q path

-- no path that begins at a place that may come next after p reads x before it assigns it
abbrev pub NotLive : List Statement → List ℕ → ℕ → Type 0
NotLive s x p = (q : ℕ) → Next (map shape_of s) p q → (path : List ℕ) → ReadBy s x q path → ⊥

-- some path does
pub record ReadLater (s : List Statement) (x : List ℕ) (p : ℕ) : Type 0 where
  pub first : ℕ
  pub path : List ℕ
  pub next : Next (map shape_of s) p first
  pub reads : ReadBy s x first path

-- it tells of each name and each line whether the name is read later
pub record IsLater (s : List Statement) (later : List ℕ → ℕ → Bool) : Type 0 where
  pub not_live : (x : List ℕ) (p : ℕ) → later x p ≡ false → NotLive s x p
  pub read : (x : List ℕ) (p : ℕ) → later x p ≡ true → ReadLater s x p

-- it tells of each place from where a name is read, as the backwards flow over the lines leaves it
pub record IsFixed (s : List Statement) (live : List ℕ → ℕ → Bool) : Type 0 where
  pub reads : (x : List ℕ) (p : ℕ) → reads_at (slice_get s p) x ≡ true → live x p ≡ true
  pub flows : (x : List ℕ) (p q : ℕ) → assigns_at (slice_get s p) x ≡ false → Next (map shape_of s) p q → live x q ≡ true → live x p ≡ true

-- the places that may come next after an `end` at p, where these blocks are open
abbrev pub close_successors : ℕ → List (Option ℕ) → List ℕ
close_successors p [] = (p + 1) ∷ []
close_successors p (None ∷ blocks) = (p + 1) ∷ []
close_successors p (Some r ∷ blocks) = (r + 1) ∷ (p + 1) ∷ []

-- the places that may come next after a statement of a shape
abbrev pub shape_successors : List Shape → ℕ → Option Shape → List ℕ
shape_successors shapes p None = []
shape_successors shapes p (Some Straight) = (p + 1) ∷ []
shape_successors shapes p (Some Loop) = (p + 1) ∷ jump shapes p ∷ []
shape_successors shapes p (Some Branch) = (p + 1) ∷ jump shapes p ∷ []
shape_successors shapes p (Some Otherwise) = jump shapes p ∷ []
shape_successors shapes p (Some Close) = close_successors p (open_at shapes p)

-- the places that may come next after p
abbrev pub successors : List Shape → ℕ → List ℕ
successors shapes p = shape_successors shapes p (slice_get shapes p)

-- whether it holds of one of these places
abbrev pub some_of : (ℕ → Bool) → List ℕ → Bool
some_of holds [] = false
some_of holds (q ∷ qs) = holds q || some_of holds qs

-- whether a path of at most k steps from a place reads x before it assigns it
abbrev pub live : List Statement → ℕ → List ℕ → ℕ → Bool
live s zero x p = reads_at (slice_get s p) x
live s (suc k) x p = reads_at (slice_get s p) x || (not (assigns_at (slice_get s p) x) && some_of (λ q. live s k x q)
    (successors (map shape_of s) p))

-- whether such a path begins after a place
abbrev pub later_within : List Statement → ℕ → List ℕ → ℕ → Bool
later_within s k x p = some_of (λ q. live s k x q) (successors (map shape_of s) p)
