-- Where a position stands, and what it takes to set or move it.
use Rattle.cord_pos.proofs.Common.{IsCord, IsOnPart, IsPosition, MAX_DEPTH, Node, None, Option, Path, Some, Spot, ap, arith, len_limit, len_of}
use Rattle.cord_pos.proofs.Common.{len_positive, level, lt-ltb, min, nat_tests, node_of, number_at, part_at, places, preorder, refl, shared_level}
use Rattle.cord_pos.proofs.Common.{suc, sym, text_len, zero, ℕ, ◌+◌, ◌-◌, ◌<◌, ◌^◌, ◌∙◌, ◌≡◌, ◌≤◌}
use Rattle.cord_core.specs.Cord.{depth}
use Rattle.cord_pos.proofs.Counts.{depth_limit, level_depth, preorder_next, shared_below, shared_same, size_len}
use Rattle.cord_pos.proofs.SamePart.{IsSamePart, has_range, same_part}
use Rattle.cord_pos.proofs.Sides.{preorder_below, preorder_first, preorder_last}
use Rattle.cord_pos.proofs.SpotBytes.{IsSpotPart, spot_part}
use Rattle.cord_pos.specs.Position.{IsNoEarlier, IsOnePart, index_at, move_visits, moved_visits, next_visits, occurrences, prev_visits, set_visits}

-- inside, one more than the level
pub set_inside : (c : Option Node) (n : Node) (i : ℕ) → c ≡ Some n → i < len_of n → set_visits c i ≡ level n i + 1
set_inside c n i e h = rw (e, lt-ltb i (len_of n) h) refl

-- setting a position visits at most one node more than the depth
pub set_bound : (c : Option Node) (i : ℕ) → IsCord c → set_visits c i ≤ depth c + 1
set_bound None i h = omega arith
set_bound (Some n) i h = grind (arith, nat_tests, level_depth n i h)

-- and at most one more than the greatest depth
pub set_limit : (c : Option Node) (i : ℕ) → IsCord c → set_visits c i ≤ MAX_DEPTH + 1
set_limit None i h = omega arith
set_limit (Some n) i h = omega (arith, set_bound (Some n) i h, depth_limit n h)

-- the cord of a valid position is sound
pub position_cord : (c : Option Node) (spot : Spot) (path : Path) → IsPosition c (Some spot) path → IsCord c
position_cord None spot path on = tt
position_cord (Some n) spot path on = on.on_spot.sound

-- a move inside one part
pub record IsStill (c : Option Node) (spot : Spot) (path : Path) (j : ℕ) : Type 0 where
  pub position : IsPosition c (Some (record { index = j; part = spot.part })) path
  pub inside : j < text_len c
  pub visits : path.visits.count ≡ min (path.visits.count + move_visits c spot.index j) (2 ^ 64 - 1)

-- an index inside the part at which a position stands takes no visit
pub still : (c : Option Node) (spot : Spot) (path : Path) (j : ℕ) → IsPosition c (Some spot) path → spot.part.start ≤ j →
    j < spot.part.end → IsStill c spot path j
still None spot path j on a b = absurd on.on_spot
still (Some n) spot path j on a b =
    let p : IsOnPart n spot.index spot.part (places path.stops.items) = on.on_spot in
    let start : spot.part.start ≡ (part_at n 0 spot.index).1 = ap (λ (x : Node × ℕ). x.1) p.holder in
    let len : len_of (node_of spot.part.node) ≡ len_of (part_at n 0 spot.index).0 = ap (λ (x : Node × ℕ). len_of x.0) p.holder in
    let m : IsSamePart n 0 spot.index j = same_part n spot.index 0 j p.sound p.inside (omega (arith, start)) (omega (arith, start, len, p.end)) in
    let inside : j < len_of n = omega (arith, len, start, p.end, (has_range n spot.index 0 p.sound p.inside).to) in
    record {
      position = record {
        on_spot = record { sound = p.sound; inside = inside; way = p.way ∙ sym m.way; holder = p.holder ∙ sym m.part; end = p.end };
        counted = on.counted;
      };
      inside = inside;
      visits = omega (arith, shared_same n spot.index j (sym m.preorder), on.counted);
    }

-- a `prev` is a move to the index before
pub prev_move : (c : Option Node) (i : ℕ) → 0 < i → prev_visits c (Some i) ≡ move_visits c i (i - 1)
prev_move c zero h = absurd (omega arith)
prev_move c (suc i) h = let e : suc i - 1 ≡ i = omega arith in rw e refl

-- a `next` inside one part
pub next_still : (c : Option Node) (spot : Spot) (path : Path) → IsPosition c (Some spot) path → spot.index + 1 < spot.part.end →
    IsStill c spot path (spot.index + 1)
next_still c spot path on k = still c spot path (spot.index + 1) on (omega (arith, (spot_part c spot path on).from)) k

-- a `prev` inside one part
pub prev_still : (c : Option Node) (spot : Spot) (path : Path) → IsPosition c (Some spot) path → spot.part.start < spot.index →
    IsStill c spot path (spot.index - 1)
prev_still c spot path on k =
    let h : IsSpotPart c spot = spot_part c spot path on in
    still c spot path (spot.index - 1) on (omega arith) (omega (arith, h.inside, h.end))

-- a move visits no more than the depth, and nothing inside one part
pub move_bound : (c : Option Node) (i j : ℕ) → IsCord c → move_visits c i j ≤ MAX_DEPTH
move_bound None i j h = omega arith
move_bound (Some n) i j h = omega (arith, level_depth n j h, depth_limit n h)

-- so the count grows by no more
pub bound_moved : (c : Option Node) (i j old new : ℕ) → IsCord c → new ≡ min (old + move_visits c i j) (2 ^ 64 - 1) → new ≤ old + MAX_DEPTH
bound_moved c i j old new h e = omega (arith, e, move_bound c i j h)

-- a move inside one part visits nothing
pub move_one_part : (c : Option Node) (i j : ℕ) → IsOnePart c (Some i) (Some j) → move_visits c i j ≡ 0
move_one_part None i j h = refl
move_one_part (Some n) i j h = omega (arith, shared_same n i j h)

-- a `next` is a move to the index after: preorder numbers tell its visits
pub next_move : (c : Option Node) (i : ℕ) → IsCord c → i + 1 < text_len c → next_visits c (Some i) ≡ move_visits c i (i + 1)
next_move None i h k = absurd (omega arith)
next_move (Some n) i h k = grind (arith, nat_tests, preorder_next n i h k)

-- and they grow
pub next_no_earlier : (c : Option Node) (i : ℕ) → IsCord c → i + 1 < text_len c → IsNoEarlier c (Some i) (Some (i + 1))
next_no_earlier None i h k = absurd (omega arith)
next_no_earlier (Some n) i h k = omega (arith, preorder_next n i h k, shared_below n i (i + 1))

-- a walk from 0 by `next` alone
pub walk_first : (c : Option Node) → IsCord c → 0 < text_len c → set_visits c 0 ≡ number_at c 0 + 1
walk_first None h k = absurd (omega arith)
walk_first (Some n) h k = grind (arith, nat_tests, preorder_first n h)

-- each `next` takes the visits to the preorder number of the new part, and they never reach the greatest count
pub walk_next : (c : Option Node) (i visits : ℕ) → IsCord c → i + 1 < text_len c → visits ≡ number_at c i + 1 →
    min (visits + next_visits c (Some i)) (2 ^ 64 - 1) ≡ number_at c (i + 1) + 1
walk_next None i visits h k e = absurd (omega arith)
walk_next (Some n) i visits h k e =
    let z : next_visits (Some n) (Some i) ≡ number_at (Some n) (i + 1) - number_at (Some n) i = grind (arith, nat_tests) in
    let m : level n (i + 1) - shared_level n i (i + 1) ≡ preorder n (i + 1) - preorder n i = omega (arith, preorder_next n i h k) in
    rw z (omega (arith, preorder_next n i h k, shared_below n i (i + 1), preorder_below n (i + 1), size_len n h, len_limit n h))

-- the last part has the greatest preorder number
pub walk_last : (c : Option Node) (i : ℕ) → IsCord c → i + 1 ≡ text_len c → number_at c i + 1 ≡ occurrences c
walk_last None i h k = absurd (omega arith)
walk_last (Some n) i h k = preorder_last n i h k

-- a cord of no bytes has no occurrence
pub walk_empty : (c : Option Node) → IsCord c → text_len c ≡ 0 → set_visits c 0 ≡ occurrences c
walk_empty None h k = refl
walk_empty (Some n) h k = absurd (omega (arith, len_positive n h))

-- an index below the length is one of the cord
pub index_inside : (c : Option Node) (i : ℕ) → i < text_len c → index_at c i ≡ Some i
index_inside c i h = rw (lt-ltb i (text_len c) h) refl

-- a move to it takes the visits from one index of the cord to another
pub moved_inside : (c : Option Node) (i j : ℕ) → j < text_len c → moved_visits c (Some i) j ≡ move_visits c i j
moved_inside c i j h = rw (lt-ltb j (text_len c) h) refl
