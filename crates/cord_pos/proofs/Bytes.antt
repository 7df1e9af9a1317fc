-- The part that holds an index of a node, and the byte there.
use Rattle.cord_pos.proofs.Common.{HasByte, IsSound, IsWithin, List, Node, Table, [], ap, arith, bytes_over, drop, is_part, len_of, part_at, refl}
use Rattle.cord_pos.proofs.Common.{suc, sym, take, true, zero, ℕ, ◌+◌, ◌-◌, ◌<◌, ◌∙◌, ◌∷◌, ◌≡◌}
use Rattle.std.specs.Prelude.{slice_get}
use Rattle.cord_node.specs.Tables.{Fits}
use Rattle.cord_pos.proofs.Sides.{by_sides}
use Rattle.cord_pos.proofs.Within.{within_on, within_self}

-- what a way ends at is a part
pub part_is : (n : Node) (i s : ℕ) → is_part (part_at n s i).0 ≡ true
part_is = by_sides (λ n i. (s : ℕ) → is_part (part_at n s i).0 ≡ true) (λ n i part s. rw (part.part s i) part.is)
    (λ n i t below s. rw (t.step.part s) (below (s + t.offset)))

-- an index of a node is one of the part that holds it
pub part_within : (n : Node) (i s at : ℕ) → at ≡ s + i → IsSound n → i < len_of n → IsWithin n i (part_at n s i).0 (at - (part_at n s i).1)
part_within = by_sides
    (λ n i. (s at : ℕ) → at ≡ s + i → IsSound n → i < len_of n → IsWithin n i (part_at n s i).0 (at - (part_at n s i).1))
    (λ n i part s at z h k.
    let a : at - s ≡ i = omega (arith, z) in
    let here : IsWithin n i n (at - s) = rw a (within_self n i h) in
    rw (part.part s i) here)
    (λ n i t below s at z h k.
    let side = t.sound h in
    rw (t.step.part s) (within_on n i t.side (i - t.offset) _ _ (side.within i t.step.from)
    (below (s + t.offset) at (omega (arith, z, t.step.from)) side.sound (t.step.inside h k))))

-- the element at a place is the first one from there on
first_from : (xs : List ℕ) (i : ℕ) → slice_get xs i ≡ slice_get (take 1 (drop i xs)) 0
first_from [] zero = refl
first_from [] (suc i) = refl
first_from (x ∷ xs) zero = refl
first_from (x ∷ xs) (suc i) = first_from xs i

-- over a table that a node fits, it has the byte of what is within it
pub within_byte : (t : Table) (n : Node) (place : ℕ) (m : Node) (at b : ℕ) → IsWithin n place m at → Fits t n → at < len_of m →
    HasByte t m at b → HasByte t n place b
within_byte t n place m at b w f inside e =
    let same : take 1 (drop (w.offset + at) (bytes_over t n)) ≡ take 1 (drop at (bytes_over t m)) = w.text t f at 1 (omega arith) in
    ap (λ (i : ℕ). slice_get (bytes_over t n) i) w.here ∙ first_from (bytes_over t n) (w.offset + at)
    ∙ ap (λ (xs : List ℕ). slice_get xs 0) same ∙ sym (first_from (bytes_over t m) at) ∙ e
