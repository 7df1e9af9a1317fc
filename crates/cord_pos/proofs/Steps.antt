-- A step down to a side.
use Rattle.cord_pos.proofs.Common.{IsSound, IsWithin, Node, None, Some, ap, below, depth_of, inl, inr, len_of, level, part_at, side_at, sym, way, ℕ}
use Rattle.cord_pos.proofs.Common.{◌+◌, ◌-◌, ◌<◌, ◌∙◌, ◌≡◌, ◌≤◌}
use Rattle.std.proofs.Common.{Option}
use Rattle.cord_pos.proofs.Sides.{IsPart, part_or_side}

-- the side m of a node that holds its index i begins at the offset o
pub record IsSide (n : Node) (i : ℕ) (m : Node) (o : ℕ) : Type 0 where
  pub sound : IsSound m
  pub from : o ≤ i
  pub inside : i - o < len_of m
  pub to : o + len_of m ≤ len_of n
  pub shorter : len_of m < len_of n
  pub within : IsWithin n i m (i - o)
  pub depth : depth_of m + 1 ≤ depth_of n
  pub below : (start : ℕ) → below n start i ≡ way m (start + o) (i - o)
  pub level : level n i ≡ 1 + level m (i - o)
  pub part : (start : ℕ) → part_at n start i ≡ part_at m (start + o) (i - o)

-- two sides are one
record SameSide (m : Node) (o : ℕ) (l : Node) (k : ℕ) : Type 0 where
  node : m ≡ l
  offset : o ≡ k

-- from their equation, that of the nodes and of the beginnings
same_side : (m : Node) (o : ℕ) (l : Node) (k : ℕ) → ◌≡◌ {A = Option (Node × ℕ)} (Some (m, o)) (Some (l, k)) → SameSide m o l k
same_side m o l k e = let f : ◌≡◌ {A = Node × ℕ} (m, o) (l, k) = cc in
    record { node = ap (λ (x : Node × ℕ). x.0) f; offset = ap (λ (x : Node × ℕ). x.1) f }

-- a side that a step leads to is so
pub is_side : (n : Node) (i : ℕ) (m : Node) (o : ℕ) → IsSound n → i < len_of n → side_at n i ≡ Some (m, o) → IsSide n i m o
is_side n i m o h k e = elim (part_or_side n i) [
  | inl part ↦ let none : side_at n i ≡ None = part.side i in absurd (cc)
  | inr t ↦
      let s = t.sound h in
      let same : SameSide t.side t.offset m o = same_side t.side t.offset m o (sym t.step.side ∙ e) in
      rw (← same.node, ← same.offset) (record {
        sound = s.sound;
        from = t.step.from;
        inside = t.step.inside h k;
        to = s.to;
        shorter = s.shorter;
        within = s.within i t.step.from;
        depth = s.depth;
        below = t.step.below;
        level = t.step.level;
        part = t.step.part;
      })
]

-- where no step leads on the node is a part
pub ends_at_part : (n : Node) (i : ℕ) → side_at n i ≡ None → IsPart n
ends_at_part n i e = elim (part_or_side n i) [
  | inl part ↦ part
  | inr t ↦ let some : side_at n i ≡ Some (t.side, t.offset) = t.step.side in absurd (cc)
]
