-- A `sub` over a `cat`, resolved by the lengths of the members: each member gets its own start and count.
use Rattle.std.specs.Prelude.{◌≡◌, ℕ, pos, ◌-◌, min, nat_lt, ◌&&◌, if◌then◌else◌, List, [], ◌∷◌, Ok}
use Rattle.cord_operands.specs.declared.operands.Number.TheVariants.{Numeral}
use Rattle.cord_meaning.specs.State.{State}
use Rattle.cord_plan.specs.Exprs.{Expr, sub, Exprs, nothing, member}
use Rattle.cord_plan.specs.Values.{length_in}

-- at most n bytes from i on of a member of this length, in front of others; a member that gets none isn't touched
abbrev pub picked : Expr → ℕ → ℕ → ℕ → Exprs → Exprs
picked e len i n others = if nat_lt i len && nat_lt 0 n then member (sub e (Numeral (pos i)) (Numeral (pos (min n (len - i))))) others
    else others

-- at most n bytes from i on of members of these lengths: those after a member begin where it ends, and get what it left
abbrev pub resolved : Exprs → List ℕ → ℕ → ℕ → Exprs
resolved nothing lens i n = nothing
resolved (member e es) [] i n = nothing
resolved (member e es) (len ∷ lens) i n = picked e len i n (resolved es lens (i - len) (n - (len - i)))

-- the texts of the members have these lengths, and no member has a fault
abbrev pub HaveLengths : ℕ → State → Exprs → List ℕ → Type 0
HaveLengths limit s nothing [] = Unit {0}
HaveLengths limit s nothing (len ∷ lens) = ⊥
HaveLengths limit s (member e es) [] = ⊥
HaveLengths limit s (member e es) (len ∷ lens) = (length_in limit s e ≡ Ok len) × HaveLengths limit s es lens
