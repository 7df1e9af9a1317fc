use Rattle.std.proofs.Common.{◌≡◌, ℕ, List, false, All, drop}
use Rattle.std.specs.Str.{bytes_eq}
use Rattle.cord_operands.proofs.names.Name.searched_in.Given as goal

-- the names passed are others: what the rest says of it, all of them say
abbrev pub invariant-loop-place : goal.invariant-loop-place
invariant-loop-place l =
    All (λ (other : List ℕ). bytes_eq l.self other ≡ false) (drop l.place l.names) →
    All (λ (other : List ℕ). bytes_eq l.self other ≡ false) l.names
