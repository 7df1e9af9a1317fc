-- Operations that join what the one before them joins, and one member more.
use Rattle.std.specs.Prelude.{◌≡◌, ℕ, zero, suc, List, Option, Some, None, true, slice_get}
use Rattle.cord_plan.specs.Exprs.{Expr, Exprs, append, cat, lacks, member, names_of, nothing}
use Rattle.cord_plan.specs.Planned.{Joined, Operation, Build, Measure}

-- the name that an operation gives what members make, and the members
abbrev pub joined_by : Operation → Option (List ℕ × Exprs)
joined_by (Build line x (Joined (cat es))) = Some (x, es)
joined_by (Measure line x (Joined (cat es))) = Some (x, es)
joined_by o = None

abbrev pub joined_at : Option Operation → Option (List ℕ × Exprs)
joined_at None = None
joined_at (Some o) = joined_by o

-- the second ones are the first ones and one more, and the first ones don't name what they make
abbrev pub IsLonger : Option (List ℕ × Exprs) → Option (List ℕ × Exprs) → Type 0
IsLonger (Some (x, es)) (Some (y, all)) = (lacks (names_of es) x ≡ true) × ((e : Expr) × (all ≡ append es (member e nothing)))
IsLonger _ _ = ⊥

-- the operation at a place joins the members of the one before it, which don't name that one's target, and one more
abbrev pub Extends : List Operation → ℕ → Type 0
Extends operations zero = ⊥
Extends operations (suc place) =
    IsLonger (joined_at (slice_get operations place)) (joined_at (slice_get operations (suc place)))
