-- Levels and preorder numbers: what is visited on the way to the next index, and how many occurrences there are.
use Rattle.cord_pos.proofs.Common.{Cat', Func, IsSound, Leaf, MAX_DEPTH, Node, Run, arith, depth_of, inl, inr, len_of, level, preorder, refl}
use Rattle.cord_pos.proofs.Common.{shared_level, size, sym, ℕ, ◌+◌, ◌-◌, ◌<◌, ◌∙◌, ◌≡◌, ◌≤◌}
use Rattle.std.proofs.Common.{◌*◌}
use Rattle.cord_pos.proofs.Sides.{by_sides}

-- no part lies below the depth
pub level_depth : (n : Node) (i : ℕ) → IsSound n → level n i ≤ depth_of n
level_depth = by_sides (λ n i. IsSound n → level n i ≤ depth_of n) (λ n i part h. omega (arith, part.level i)) (λ n i t below h.
    let side = t.sound h in
    let deep : level t.side (i - t.offset) ≤ depth_of t.side = below side.sound in
    omega (arith, t.step.level, side.depth, deep))

-- no sound node is deeper than a cord may be
pub depth_limit : (n : Node) → IsSound n → depth_of n ≤ MAX_DEPTH
depth_limit (Leaf len bytes from mark) h = omega arith
depth_limit (Run byte len) h = omega arith
depth_limit (Func id len from) h = omega arith
depth_limit (Cat' mark depth len p left q right count) h = h.5

-- there are fewer occurrences than twice the bytes
pub size_len : (n : Node) → IsSound n → size n + 1 ≤ 2 * len_of n
size_len (Leaf len bytes from mark) h = omega (arith, h.0)
size_len (Run byte len) h = omega (arith, h.0)
size_len (Func id len from) h = omega (arith, h.0)
size_len (Cat' mark depth len p left q right count) h = omega (arith, h.2, size_len left h.0, size_len right h.1)

-- to the next index: the preorder number grows by the steps below the deepest occurrence above both parts
pub preorder_next : (n : Node) (i : ℕ) → IsSound n → i + 1 < len_of n → preorder n (i + 1) + shared_level n i (i + 1) ≡ preorder n i
    + level n (i + 1)
preorder_next = by_sides
    (λ n i. IsSound n → i + 1 < len_of n → preorder n (i + 1) + shared_level n i (i + 1) ≡ preorder n i + level n (i + 1))
    (λ n i part h k. omega (arith, part.preorder i, part.preorder (i + 1), part.shared i (i + 1), part.level (i + 1)))
    (λ n i t below h k. elim (t.other (i + 1)) [
      | inl on ↦
          let z : i + 1 - t.offset ≡ i - t.offset + 1 = omega (arith, t.step.from) in
          let inside : i - t.offset + 1 < len_of t.side = omega (arith, z, on.step.inside h k) in
          let side : preorder t.side (i + 1 - t.offset) + shared_level t.side (i - t.offset) (i + 1 - t.offset)
          ≡ preorder t.side (i - t.offset) + level t.side (i + 1 - t.offset) = rw z (below (t.sound h).sound inside) in
          omega (arith, side, t.step.preorder, on.step.preorder, on.step.level, on.shared)
      | inr off ↦ omega (arith, off.shared, off.next h refl)
    ])

-- parts with one preorder number are one part, to which all steps are shared
pub shared_same : (n : Node) (i j : ℕ) → preorder n i ≡ preorder n j → shared_level n i j ≡ level n j
shared_same = by_sides (λ n i. (j : ℕ) → preorder n i ≡ preorder n j → shared_level n i j ≡ level n j)
    (λ n i part j e. part.shared i j ∙ sym (part.level j)) (λ n i t below j e. elim (t.other j) [
      | inl on ↦
          let side : shared_level t.side (i - t.offset) (j - t.offset) ≡ level t.side (j - t.offset) =
          below (j - t.offset) (omega (arith, e, t.step.preorder, on.step.preorder)) in
          omega (arith, side, on.shared, on.step.level)
      | inr off ↦ absurd (off.apart e)
    ])

-- no more steps are shared than lead to the second part
pub shared_below : (n : Node) (i j : ℕ) → shared_level n i j ≤ level n j
shared_below = by_sides (λ n i. (j : ℕ) → shared_level n i j ≤ level n j) (λ n i part j. omega (arith, part.shared i j))
    (λ n i t below j. elim (t.other j) [
      | inl on ↦
          let side : shared_level t.side (i - t.offset) (j - t.offset) ≤ level t.side (j - t.offset) = below (j - t.offset) in
          omega (arith, side, on.shared, on.step.level)
      | inr off ↦ omega (arith, off.shared)
    ])
