-- How a way is left and taken again: where the ways to two indices part, and what a climb and a descent together visit.
use Rattle.cord_pos.proofs.Common.{IsSound, List, Node, Place, Some, [], ap, arith, below, depth_of, false, inl, inr, len_of, length, level}
use Rattle.cord_pos.proofs.Common.{nat_tests, part_at, refl, shared_level, sym, true, way, ℕ, ◌++◌, ◌+◌, ◌-◌, ◌<◌, ◌∙◌, ◌∷◌, ◌≡◌, ◌≤◌}
use Rattle.cord_pos.proofs.Sides.{part_or_side}
use Rattle.cord_pos.specs.inner.Path.{NoneHolds, holds}

-- a node that stands k steps below a root, where its text begins
pub record IsUnder (root : Node) (s k : ℕ) (n : Node) (t : ℕ) : Type 0 where
  pub sound : IsSound n
  pub from : s ≤ t
  pub to : t + len_of n ≤ s + len_of root
  pub depth : k + depth_of n ≤ depth_of root

-- a list with a member is not empty
not_empty : {A : Type 0} (xs ys : List A) (x : A) → [] ≡ xs ++ x ∷ ys → ⊥
not_empty [] ys x e = cc
not_empty (y ∷ xs) ys x e = cc

-- two places are one
record SamePlace (m : Node) (s : ℕ) (n : Node) (t : ℕ) : Type 0 where
  node : m ≡ n
  start : s ≡ t

-- from their equation, that of the nodes and of the beginnings
same_place : (m : Node) (s : ℕ) (n : Node) (t : ℕ) → ◌≡◌ {A = Place} (Some m, s) (Some n, t) → SamePlace m s n t
same_place m s n t e = let f : Some m ≡ Some n = ap (λ (x : Place). x.0) e in record { node = cc; start = ap (λ (x : Place). x.1) e }

-- a root stands no step below itself
under_self : (root n : Node) (s t : ℕ) → IsSound root → root ≡ n → s ≡ t → IsUnder root s 0 n t
under_self root n s t h e f = rw (← e, ← f) (record { sound = h; from = omega arith; to = omega arith; depth = omega arith })

-- each place on a way is that of a sound node, whose text lies inside that of the root
pub under_root : (root : Node) (s i : ℕ) (prefix rest : List Place) (n : Node) (t : ℕ) → IsSound root →
    way root s i ≡ prefix ++ (Some n, t) ∷ rest → IsUnder root s (length prefix) n t
under_root root s i [] rest n t h e = let f : SamePlace root s n t = same_place root s n t (cc) in under_self root n s t h f.node f.start
under_root root s i (x ∷ prefix) rest n t h e = elim (part_or_side root i) [
  | inl part ↦ let none : below root s i ≡ [] = part.below s i in absurd (not_empty prefix rest (Some n, t) (cc))
  | inr side ↦
      let b : below root s i ≡ way side.side (s + side.offset) (i - side.offset) = side.step.below s in
      let is = side.sound h in
      let u : IsUnder side.side (s + side.offset) (length prefix) n t =
      under_root side.side (s + side.offset) (i - side.offset) prefix rest n t is.sound (cc) in
      record { sound = u.sound; from = omega (arith, u.from); to = omega (arith, u.to, is.to); depth = omega (arith, u.depth, is.depth) }
]

-- an index of the root lies in the text of a node that begins at t
pub record LiesIn (n : Node) (t at : ℕ) : Type 0 where
  pub from : t ≤ at
  pub to : at < t + len_of n

-- where the test says so
pub lies_in : (n : Node) (t at : ℕ) → holds at (Some n, t) ≡ true → LiesIn n t at
lies_in n t at h = record { from = grind (arith, nat_tests); to = grind (arith, nat_tests) }

-- where the test denies it, of an index that is not before the node
lies_outside : (n : Node) (t at : ℕ) → holds at (Some n, t) ≡ false → t ≤ at → t + len_of n ≤ at
lies_outside n t at h k = grind (arith, nat_tests)

-- where no place below the root holds the second index, the ways part at the root
parted : (root : Node) (s i j at : ℕ) → at ≡ s + j → j < len_of root → IsSound root → NoneHolds at (below root s i) →
    shared_level root i j ≡ 0
parted root s i j at z b h out = elim (part_or_side root i) [
  | inl part ↦ part.shared i j
  | inr side ↦ elim (side.other j) [
    | inl on ↦
        let out' : NoneHolds at (way side.side (s + side.offset) (i - side.offset)) = rw (side.step.below s) at out in
        let o : s + side.offset + len_of side.side ≤ at =
        lies_outside side.side (s + side.offset) at out'.0 (omega (arith, z, on.step.from)) in
        absurd (omega (arith, z, o, on.step.from, on.step.inside h b))
    | inr off ↦ off.shared
  ]
]

-- the way to a second index: it parts from the way to the first below the node n
pub record IsMove (root : Node) (s i j : ℕ) (prefix : List Place) (n : Node) (t at : ℕ) : Type 0 where
  pub way : prefix ++ way n t (at - t) ≡ way root s j
  pub shared : length prefix ≡ shared_level root i j
  pub level : level root j ≡ length prefix + level n (at - t)
  pub part : part_at n t (at - t) ≡ part_at root s j

-- where the climb stopped at the root
moved_self : (root n : Node) (s i j t at : ℕ) → at ≡ s + j → shared_level root i j ≡ 0 → root ≡ n → s ≡ t → IsMove root s i j [] n t at
moved_self root n s i j t at z k e f =
    let a : at - s ≡ j = omega arith in
    rw (← e, ← f) (record { way = rw a refl; shared = sym k; level = rw a (omega arith); part = rw a refl })

-- after a climb that stopped at the first node that holds the second index
pub moved : (root : Node) (s i j at : ℕ) (prefix rest : List Place) (n : Node) (t : ℕ) → at ≡ s + j → j < len_of root → IsSound root →
    way root s i ≡ prefix ++ (Some n, t) ∷ rest → holds at (Some n, t) ≡ true → NoneHolds at rest → IsMove root s i j prefix n t at
moved root s i j at [] rest n t z b h e g out =
    let f : SamePlace root s n t = same_place root s n t (cc) in
    let r : rest ≡ below root s i = cc in
    let out' : NoneHolds at (below root s i) = rw r at out in
    moved_self root n s i j t at z (parted root s i j at z b h out') f.node f.start
moved root s i j at (x ∷ prefix) rest n t z b h e g out = elim (part_or_side root i) [
  | inl part ↦ let none : below root s i ≡ [] = part.below s i in absurd (not_empty prefix rest (Some n, t) (cc))
  | inr side ↦
      let m = side.side in
      let o = side.offset in
      let f : below root s i ≡ way m (s + o) (i - o) = side.step.below s in
      let w : way m (s + o) (i - o) ≡ prefix ++ (Some n, t) ∷ rest = cc in
      let is = side.sound h in
      let l : LiesIn n t at = lies_in n t at g in
      let u : IsUnder m (s + o) (length prefix) n t = under_root m (s + o) (i - o) prefix rest n t is.sound w in
      elim (side.other j) [
        | inl on ↦
            let there : IsMove m (s + o) (i - o) (j - o) prefix n t at =
            moved m (s + o) (i - o) (j - o) at prefix rest n t (omega (arith, z, on.step.from)) (on.step.inside h b) is.sound w g out in
            let mw : prefix ++ way n t (at - t) ≡ way m (s + o) (j - o) = there.way in
            let fj : below root s j ≡ way m (s + o) (j - o) = on.step.below s in
            record {
              way = cc;
              shared = omega (arith, there.shared, on.shared);
              level = omega (arith, there.level, on.step.level);
              part = there.part ∙ sym (on.step.part s);
            }
        | inr off ↦ absurd (omega (arith, z, l.from, l.to, u.from, u.to, off.outside (omega (arith, z, l.from, u.from))))
      ]
]
