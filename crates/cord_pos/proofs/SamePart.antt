-- Two indices in one part.
use Rattle.cord_pos.proofs.Common.{IsSound, List, Node, Place, Some, ap, arith, inl, inr, len_of, part_at, preorder, sym, way, ℕ, ◌+◌, ◌-◌, ◌<◌, ◌∙◌}
use Rattle.cord_pos.proofs.Common.{◌∷◌, ◌≡◌, ◌≤◌}
use Rattle.cord_pos.proofs.Sides.{by_sides}

-- a part that begins at p.1 in the root's text lies inside a node that begins at s, and has the node's index i in it
pub record HasRange (p : Node × ℕ) (n : Node) (s i : ℕ) : Type 0 where
  pub from : s ≤ p.1
  pub to : p.1 + len_of p.0 ≤ s + len_of n
  pub first : p.1 ≤ s + i
  pub last : s + i < p.1 + len_of p.0

-- the part on the way to an index holds it
pub has_range : (n : Node) (i s : ℕ) → IsSound n → i < len_of n → HasRange (part_at n s i) n s i
has_range = by_sides (λ n i. (s : ℕ) → IsSound n → i < len_of n → HasRange (part_at n s i) n s i)
    (λ n i part s h k. rw (part.part s i) (record { from = omega arith; to = omega arith; first = omega arith; last = omega (arith, k) }))
    (λ n i t below s h k.
    let side = t.sound h in
    let r = below (s + t.offset) side.sound (t.step.inside h k) in
    rw (t.step.part s) (record {
      from = omega (arith, r.from);
      to = omega (arith, r.to, side.to);
      first = omega (arith, r.first, t.step.from);
      last = omega (arith, r.last, t.step.from);
    }))

-- the second index has the way and the part of the first
pub record IsSamePart (n : Node) (s i j : ℕ) : Type 0 where
  pub way : way n s j ≡ way n s i
  pub part : part_at n s j ≡ part_at n s i
  pub preorder : preorder n j ≡ preorder n i

-- an index inside the part of another has its way
pub same_part : (n : Node) (i s j : ℕ) → IsSound n → i < len_of n → (part_at n s i).1 ≤ s + j →
    s + j < (part_at n s i).1 + len_of (part_at n s i).0 → IsSamePart n s i j
same_part = by_sides
    (λ n i. (s j : ℕ) → IsSound n → i < len_of n → (part_at n s i).1 ≤ s + j →
    s + j < (part_at n s i).1 + len_of (part_at n s i).0 → IsSamePart n s i j)
    (λ n i part s j h k a b. record {
      way = ap (λ (ps : List Place). (Some n, s) ∷ ps) (part.below s j ∙ sym (part.below s i));
      part = part.part s j ∙ sym (part.part s i);
      preorder = part.preorder j ∙ sym (part.preorder i);
    })
    (λ n i t below s j h k a b.
    let m = t.side in
    let e : part_at n s i ≡ part_at m (s + t.offset) (i - t.offset) = t.step.part s in
    let sound = (t.sound h).sound in
    let inside = t.step.inside h k in
    let first : (part_at m (s + t.offset) (i - t.offset)).1 ≤ s + j = rw (← e) a in
    let last : s + j < (part_at m (s + t.offset) (i - t.offset)).1 + len_of (part_at m (s + t.offset) (i - t.offset)).0 = rw (← e) b in
    let r = has_range m (i - t.offset) (s + t.offset) sound inside in
    elim (t.other j) [
      | inl on ↦
          let z : s + t.offset + (j - t.offset) ≡ s + j = omega (arith, on.step.from) in
          let same = below (s + t.offset) (j - t.offset) sound inside (rw z first) (rw z last) in
          record {
            way = ap (λ (ps : List Place). (Some n, s) ∷ ps) (on.step.below s ∙ same.way ∙ sym (t.step.below s));
            part = on.step.part s ∙ same.part ∙ sym e;
            preorder = omega (arith, same.preorder, t.step.preorder, on.step.preorder);
          }
      | inr off ↦ absurd (omega (arith, r.from, r.to, first, last, off.outside (omega (arith, r.from, first))))
    ])

-- indices with one preorder number are in one part
pub same_number : (n : Node) (i s j : ℕ) → preorder n i ≡ preorder n j → part_at n s j ≡ part_at n s i
same_number = by_sides (λ n i. (s j : ℕ) → preorder n i ≡ preorder n j → part_at n s j ≡ part_at n s i)
    (λ n i part s j e. part.part s j ∙ sym (part.part s i)) (λ n i t below s j e. elim (t.other j) [
      | inl on ↦
          let side = below (s + t.offset) (j - t.offset) (omega (arith, e, t.step.preorder, on.step.preorder)) in
          on.step.part s ∙ side ∙ sym (t.step.part s)
      | inr off ↦ absurd (off.apart e)
    ])

-- the part that holds one index holds another one
pub record IsIn (n : Node) (i j : ℕ) : Type 0 where
  pub from : (part_at n 0 i).1 ≤ j
  pub to : j < (part_at n 0 i).1 + len_of (part_at n 0 i).0

-- so it is where both have one preorder number
pub number_in : (n : Node) (i j : ℕ) → IsSound n → j < len_of n → preorder n i ≡ preorder n j → IsIn n i j
number_in n i j h k e =
    let r : HasRange (part_at n 0 j) n 0 j = has_range n j 0 h k in
    let m : part_at n 0 i ≡ part_at n 0 j = sym (same_number n i 0 j e) in
    record { from = rw m (omega (arith, r.first)); to = rw m (omega (arith, r.last)) }

-- and only there
pub in_number : (n : Node) (i j : ℕ) → IsSound n → i < len_of n → IsIn n i j → preorder n i ≡ preorder n j
in_number n i j h k is = sym (same_part n i 0 j h k (omega (arith, is.from)) (omega (arith, is.to))).preorder
