-- What a position has at the place to which it was moved.
use Rattle.cord_search.proofs.Common.{IsSpanUpTo, Node, None, Option, Some, Span, arith, false, refl, text_len, true, ℕ, ◌+◌, ◌-◌, ◌<◌, ◌≡◌}
use Rattle.std.specs.Prelude.{IsSome}
use Rattle.cord_pos.proofs.Standings.{index_inside}
use Rattle.cord_pos.specs.Position.{index_at, moved_index}
use Rattle.cord_pos.specs.Spans.{EndsAt}

-- an index of the cord is one
pub set_valid : (c : Option Node) (i : ℕ) → i < text_len c → IsSome (index_at c i)
set_valid c i h = rw (index_inside c i h) refl

-- a position that is moved inside its cord stands there
pub moved_there : (c : Option Node) (i : Option ℕ) (j : ℕ) → IsSome i → j < text_len c → moved_index c i j ≡ Some j
moved_there c None j valid h = let bad : false ≡ true = valid in cc
moved_there c (Some i) j valid h = index_inside c j h

-- a span that ends before a place
pub up_to_end : (c : Option Node) (end : ℕ) (s : Span) → 0 < end → EndsAt c (end - 1) s → IsSpanUpTo c end s
up_to_end c end s some h = let e : end - 1 + 1 ≡ end = omega arith in record { inside = rw e at h.inside; span = rw e at h.span }

-- where something holds of a span that doesn't of none, there is one
pub never_none : (P : Option Span → Type 0) (r : Option Span) → (P None → ⊥) → P r → ((s : Span) → r ≡ Some s → ⊥) → ⊥
never_none P None none h never = none h
never_none P (Some s) none h never = never s refl
