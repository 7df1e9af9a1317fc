-- Where each statement may lead, by the blocks of a script alone: without a search for an `end`, and without a stack of open blocks.
use Rattle.std.specs.Prelude.{◌≡◌, ◌⊎◌, ℕ, ◌+◌, List, [], ◌∷◌, ◌++◌, length, slice_get, unwrap_or}
use Rattle.cord_meaning.specs.Unrolled.{Parts, Nothing, Then, Repeats, Chooses, ChoosesElse, flat}

-- of each statement, in order, the places that it may lead to, where the first one stands at p: a `repeat` and its `end` to the first
-- place after the `repeat` and to the one after the `end`; an `if` to the next place, and to the one after its `else` or, where it has
-- none, to its `end`; an `else` to its `end`; all others to the next place
abbrev pub leads : {L : Type 0} → ℕ → Parts L → List (List ℕ)
leads p Nothing = []
leads p (Then l rest) = ((p + 1) ∷ []) ∷ leads (p + 1) rest
leads p (Repeats l e body rest) =
    let closing : ℕ = p + 1 + length (flat body) in
    let both : List ℕ = (p + 1) ∷ (closing + 1) ∷ [] in
    both ∷ (leads (p + 1) body ++ (both ∷ leads (closing + 1) rest))
leads p (Chooses l e branch rest) =
    let closing : ℕ = p + 1 + length (flat branch) in
    ((p + 1) ∷ closing ∷ []) ∷ (leads (p + 1) branch ++ (((closing + 1) ∷ []) ∷ leads (closing + 1) rest))
leads p (ChoosesElse l m e branch other rest) =
    let middle : ℕ = p + 1 + length (flat branch) in
    let closing : ℕ = middle + 1 + length (flat other) in
    ((p + 1) ∷ (middle + 1) ∷ []) ∷ (leads (p + 1) branch ++ ((closing ∷ [])
    ∷ (leads (middle + 1) other ++ (((closing + 1) ∷ []) ∷ leads (closing + 1) rest))))

-- q is one of these places
abbrev pub IsAmong : List ℕ → ℕ → Type 0
IsAmong [] q = ⊥
IsAmong (p ∷ ps) q = (q ≡ p) ⊎ IsAmong ps q

-- the statement at p may lead to q
abbrev pub LeadsTo : {L : Type 0} → Parts L → ℕ → ℕ → Type 0
LeadsTo parts p q = IsAmong (unwrap_or (slice_get (leads 0 parts) p) []) q
