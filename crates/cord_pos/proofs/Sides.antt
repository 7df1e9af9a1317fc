-- A node is a part, or has a side that holds its index: what is said of it, by what is said of the side.
use Rattle.cord_pos.proofs.Common.{Cat', Func, IsSound, IsWithin, Leaf, List, Node, None, Part, Rc, Run, Some, [], arith, below, depth_of, false, inl}
use Rattle.cord_pos.proofs.Common.{inr, is_part, len_of, len_positive, level, lt-ltb, nat_tests, part_at, preorder, refl, shared_level, side_at, size}
use Rattle.cord_pos.proofs.Common.{true, way, ℕ, ◌+◌, ◌-◌, ◌<◌, ◌≡◌, ◌≤◌}
use Rattle.std.proofs.Common.{Global, ◌⊎◌}
use Rattle.std.proofs.Math.Logic.{⊎_elim, ⊎_map}
use Rattle.std.proofs.lemmas.Bool.{cases_lt}
use Rattle.std.specs.Prelude.{nat_lt}
use Rattle.cord_pos.proofs.Within.{within_left, within_right}

-- a node without sides
pub record IsPart (n : Node) : Type 0 where
  pub is : is_part n ≡ true
  pub side : (i : ℕ) → side_at n i ≡ None
  pub below : (s i : ℕ) → below n s i ≡ []
  pub part : (s i : ℕ) → part_at n s i ≡ (n, s)
  pub level : (i : ℕ) → level n i ≡ 0
  pub preorder : (i : ℕ) → preorder n i ≡ 0
  pub shared : (i j : ℕ) → shared_level n i j ≡ 0

part_view : (n : Node) → is_part n ≡ true → IsPart n
part_view (Leaf len bytes start mark) e =
    record { is = refl; side = λ _. refl; below = λ _ _. refl; part = λ _ _. refl; level = λ _. refl; preorder = λ _. refl; shared = λ _ _. refl }
part_view (Run byte len) e =
    record { is = refl; side = λ _. refl; below = λ _ _. refl; part = λ _ _. refl; level = λ _. refl; preorder = λ _. refl; shared = λ _ _. refl }
part_view (Func id len start) e =
    record { is = refl; side = λ _. refl; below = λ _ _. refl; part = λ _ _. refl; level = λ _. refl; preorder = λ _. refl; shared = λ _ _. refl }
part_view (Cat' mark depth len p left q right count) e = absurd (cc)

-- the step towards an index leads to the side m, which begins at the offset o, after so many of the node's occurrences
pub record IsStep (n m : Node) (o skipped i : ℕ) : Type 0 where
  pub from : o ≤ i
  pub inside : IsSound n → i < len_of n → i - o < len_of m
  pub side : side_at n i ≡ Some (m, o)
  pub below : (s : ℕ) → below n s i ≡ way m (s + o) (i - o)
  pub part : (s : ℕ) → part_at n s i ≡ part_at m (s + o) (i - o)
  pub level : level n i ≡ 1 + level m (i - o)
  pub preorder : preorder n i ≡ 1 + skipped + preorder m (i - o)

-- the step to another index leads to the same side
pub record GoesOn (n m : Node) (o skipped i j : ℕ) : Type 0 where
  pub step : IsStep n m o skipped j
  pub shared : shared_level n i j ≡ 1 + shared_level m (i - o) (j - o)

-- or to the other one; the part after the last one of a side is the first one of the next
pub record GoesApart (n m : Node) (o i j : ℕ) : Type 0 where
  pub shared : shared_level n i j ≡ 0
  pub outside : o ≤ j → o + len_of m ≤ j
  pub apart : preorder n i ≡ preorder n j → ⊥
  pub next : IsSound n → j ≡ i + 1 → preorder n j ≡ preorder n i + level n j

-- the side of a sound node
pub record IsSoundSide (n m : Node) (o : ℕ) : Type 0 where
  pub sound : IsSound m
  pub to : o + len_of m ≤ len_of n
  pub shorter : len_of m < len_of n
  pub depth : depth_of m + 1 ≤ depth_of n
  pub within : (i : ℕ) → o ≤ i → IsWithin n i m (i - o)

-- the side that holds an index
pub record HasSide (n : Node) (i : ℕ) : Type 0 where
  pub side : Node
  pub offset : ℕ
  pub skipped : ℕ
  pub step : IsStep n side offset skipped i
  pub other : (j : ℕ) → GoesOn n side offset skipped i j ⊎ GoesApart n side offset i j
  pub sound : IsSound n → IsSoundSide n side offset

-- a test that says no
not_less : (a b : ℕ) → b ≤ a → nat_lt a b ≡ false
not_less a b h = grind (arith, nat_tests)

module _ (p q : Rc (Unit {0}) Global) (left right : Node) (len depth count : ℕ) (mark : List Part) where
  left_step : (i : ℕ) → i < len_of left → IsStep (Cat' mark depth len p left q right count) left 0 0 i
  left_step i h =
      let test : nat_lt i (len_of left) ≡ true = lt-ltb i (len_of left) h in
      let z : i - 0 ≡ i = omega arith in
      record {
        from = omega arith;
        inside = λ sound k. rw z h;
        side = rw test refl;
        below = λ s. let y : s + 0 ≡ s = omega arith in rw (y, z, test) refl;
        part = λ s. let y : s + 0 ≡ s = omega arith in rw (y, z, test) refl;
        level = rw (z, test) refl;
        preorder = rw (z, test) refl;
      }

  right_step : (i : ℕ) → len_of left ≤ i → IsStep (Cat' mark depth len p left q right count) right (len_of left) (size left) i
  right_step i h =
      let test : nat_lt i (len_of left) ≡ false = not_less i (len_of left) h in
      record {
        from = h;
        inside = λ sound k. omega (arith, sound.2, k);
        side = rw test refl;
        below = λ s. rw test refl;
        part = λ s. rw test refl;
        level = rw test refl;
        preorder = rw test refl;
      }

-- a part is one of the occurrences
pub preorder_below : (n : Node) (i : ℕ) → preorder n i < size n
preorder_below (Leaf len bytes from mark) i = omega arith
preorder_below (Run byte len) i = omega arith
preorder_below (Func id len from) i = omega arith
preorder_below (Cat' mark depth len p left q right count) i =
    ⊎_elim
    (λ (k : i < len_of left). omega (arith, (left_step p q left right len depth count mark i k).preorder, preorder_below left (i - 0)))
    (λ (k : len_of left ≤ i).
    omega (arith, (right_step p q left right len depth count mark i k).preorder, preorder_below right (i - len_of left)))
    (cases_lt i (len_of left))

-- the way to the first part meets its occurrences first
pub preorder_first : (n : Node) → IsSound n → preorder n 0 ≡ level n 0
preorder_first (Leaf len bytes from mark) h = refl
preorder_first (Run byte len) h = refl
preorder_first (Func id len from) h = refl
preorder_first (Cat' mark depth len p left q right count) h =
    let s = left_step p q left right len depth count mark 0 (len_positive left h.0) in
    let l : level (Cat' mark depth len p left q right count) 0 ≡ 1 + level left 0 = s.level in
    let o : preorder (Cat' mark depth len p left q right count) 0 ≡ 1 + 0 + preorder left 0 = s.preorder in
    omega (arith, l, o, preorder_first left h.0)

-- the last part is the last occurrence
pub preorder_last : (n : Node) (i : ℕ) → IsSound n → i + 1 ≡ len_of n → preorder n i + 1 ≡ size n
preorder_last (Leaf len bytes from mark) i h e = refl
preorder_last (Run byte len) i h e = refl
preorder_last (Func id len from) i h e = refl
preorder_last (Cat' mark depth len p left q right count) i h e =
    let a : 0 < len_of right = len_positive right h.1 in
    let k : len_of left ≤ i = omega (arith, h.2) in
    omega (
      arith,
      (right_step p q left right len depth count mark i k).preorder,
      preorder_last right (i - len_of left) h.1 (omega (arith, h.2)),
    )

module _ (p q : Rc (Unit {0}) Global) (left right : Node) (len depth count : ℕ) (mark : List Part) where
  -- on the left side
  left_on : (i j : ℕ) → i < len_of left → j < len_of left → GoesOn (Cat' mark depth len p left q right count) left 0 0 i j
  left_on i j h k =
      let y : i - 0 ≡ i = omega arith in
      let z : j - 0 ≡ j = omega arith in
      record {
        step = left_step p q left right len depth count mark j k;
        shared = rw (y, z, lt-ltb i (len_of left) h, lt-ltb j (len_of left) k) refl;
      }

  left_apart : (i j : ℕ) → i < len_of left → len_of left ≤ j → GoesApart (Cat' mark depth len p left q right count) left 0 i j
  left_apart i j h k =
      let s = left_step p q left right len depth count mark i h in
      let t = right_step p q left right len depth count mark j k in
      record {
        shared = rw (lt-ltb i (len_of left) h, not_less j (len_of left) k) refl;
        outside = λ o. omega arith;
        apart = λ e. omega (arith, e, s.preorder, t.preorder, preorder_below left (i - 0));
        next = λ sound e.
            let z : j - len_of left ≡ 0 = omega (arith, e) in
            let first : preorder right (j - len_of left) ≡ level right (j - len_of left) = rw z (preorder_first right sound.1) in
            omega (arith, first, s.preorder, t.preorder, t.level, preorder_last left (i - 0) sound.0 (omega (arith, e)));
      }

  abbrev left_side : (i : ℕ) → i < len_of left → HasSide (Cat' mark depth len p left q right count) i
  left_side i h = record {
    side = left;
    offset = 0;
    skipped = 0;
    step = left_step p q left right len depth count mark i h;
    other = λ j. ⊎_map (left_on i j h) (left_apart i j h) (cases_lt j (len_of left));
    sound = λ sound. record {
      sound = sound.0;
      to = omega (arith, sound.2);
      shorter = omega (arith, sound.2, len_positive right sound.1);
      depth = omega (arith, sound.3);
      within = λ j k. let z : j - 0 ≡ j = omega arith in rw z (within_left p q left right len depth count mark sound j);
    };
  }

  -- and on the right one
  right_on : (i j : ℕ) → len_of left ≤ i → len_of left ≤ j →
      GoesOn (Cat' mark depth len p left q right count) right (len_of left) (size left) i j
  right_on i j h k = record {
    step = right_step p q left right len depth count mark j k;
    shared = rw (not_less i (len_of left) h, not_less j (len_of left) k) refl;
  }

  right_apart : (i j : ℕ) → len_of left ≤ i → j < len_of left →
      GoesApart (Cat' mark depth len p left q right count) right (len_of left) i j
  right_apart i j h k =
      let s = right_step p q left right len depth count mark i h in
      let t = left_step p q left right len depth count mark j k in
      record {
        shared = rw (not_less i (len_of left) h, lt-ltb j (len_of left) k) refl;
        outside = λ o. omega (arith, o, k);
        apart = λ e. omega (arith, e, s.preorder, t.preorder, preorder_below left (j - 0));
        next = λ sound e. absurd (omega (arith, e, h, k));
      }

  abbrev right_side : (i : ℕ) → len_of left ≤ i → HasSide (Cat' mark depth len p left q right count) i
  right_side i h = record {
    side = right;
    offset = len_of left;
    skipped = size left;
    step = right_step p q left right len depth count mark i h;
    other = λ j. ⊎_elim (λ k. inr (right_apart i j h k)) (λ k. inl (right_on i j h k)) (cases_lt j (len_of left));
    sound = λ sound. record {
      sound = sound.1;
      to = omega (arith, sound.2);
      shorter = omega (arith, sound.2, len_positive left sound.0);
      depth = omega (arith, sound.3);
      within = λ j k. within_right p q left right len depth count mark sound j k;
    };
  }

-- what holds of each part, and of each node of whose side it holds, holds of all nodes
pub by_sides : (P : Node → ℕ → Type 0) → ((n : Node) (i : ℕ) → IsPart n → P n i) →
    ((n : Node) (i : ℕ) (t : HasSide n i) → P t.side (i - t.offset) → P n i) → (n : Node) (i : ℕ) → P n i
by_sides P part node (Leaf len bytes start mark) i = part (Leaf len bytes start mark) i (part_view (Leaf len bytes start mark) refl)
by_sides P part node (Run byte len) i = part (Run byte len) i (part_view (Run byte len) refl)
by_sides P part node (Func id len start) i = part (Func id len start) i (part_view (Func id len start) refl)
by_sides P part node (Cat' mark depth len p left q right count) i =
    ⊎_elim
    (λ (k : i < len_of left). node (Cat' mark depth len p left q right count) i (left_side p q left right len depth count mark i k)
    (by_sides P part node left (i - 0)))
    (λ (k : len_of left ≤ i). node (Cat' mark depth len p left q right count) i (right_side p q left right len depth count mark i k)
    (by_sides P part node right (i - len_of left)))
    (cases_lt i (len_of left))

-- each node is a part, or has a side that holds the index
pub part_or_side : (n : Node) (i : ℕ) → IsPart n ⊎ HasSide n i
part_or_side n i = by_sides (λ n i. IsPart n ⊎ HasSide n i) (λ n i part. inl part) (λ n i t _. inr t) n i
