-- How many parts a range touches.
use Rattle.std.proofs.Common.{◌≡◌, ℕ, ◌+◌, ◌-◌, ◌<◌, ◌≤◌, List, [], ◌∷◌, ◌++◌, length, refl, arith, length-append, ⊎_elim}
use Rattle.std.proofs.lemmas.Bool.{cases_lt}
use Rattle.cord_node.specs.declared.Node.{Node}
use Rattle.cord_node.specs.declared.Node.TheVariants.{Leaf, Run, Func, Cat'}
use Rattle.cord_node.specs.Tree.{len_of, IsSound}
use Rattle.cord_node.specs.PartsFrom.{Part, parts}
use Rattle.cord_node.specs.Touched.{part_len, touched}

-- the length of the text of these parts
abbrev pub parts_len : List Part → ℕ
parts_len [] = 0
parts_len (p ∷ ps) = part_len p + parts_len ps

parts_len-append : (ps qs : List Part) → parts_len (ps ++ qs) ≡ parts_len ps + parts_len qs
parts_len-append [] qs = omega arith
parts_len-append (p ∷ ps) qs = omega (arith, parts_len-append ps qs)

-- it is what a node stores
pub parts_len-len_of : (n : Node) → IsSound n → parts_len (parts n) ≡ len_of n
parts_len-len_of (Leaf len bytes start mark) s = omega arith
parts_len-len_of (Run byte len) s = omega arith
parts_len-len_of (Func id len start) s = omega arith
parts_len-len_of (Cat' mark depth len p left q right count) s =
    omega (arith, parts_len-append (parts left) (parts right), parts_len-len_of left s.0, parts_len-len_of right s.1, s.2)

-- of two lists, one after the other
touched-append : (from until : ℕ) (ps qs : List Part) →
    touched from until (ps ++ qs) ≡ touched from until ps + touched (from - parts_len ps) (until - parts_len ps) qs
touched-append from until [] qs =
    let e : from - 0 ≡ from = omega arith in
    let f : until - 0 ≡ until = omega arith in
    rw (e, f) (omega arith)
touched-append from until (p ∷ ps) qs =
    let e : from - (part_len p + parts_len ps) ≡ from - part_len p - parts_len ps = omega arith in
    let f : until - (part_len p + parts_len ps) ≡ until - part_len p - parts_len ps = omega arith in
    rw (e, f) (omega (arith, touched-append (from - part_len p) (until - part_len p) ps qs))

-- of two sides
pub touched_sides : (from until : ℕ) (left right : Node) → IsSound left → touched from until (parts left ++ parts right)
    ≡ touched from until (parts left) + touched (from - len_of left) (until - len_of left) (parts right)
touched_sides from until left right s = rw (← parts_len-len_of left s) (touched-append from until (parts left) (parts right))

-- no fewer where the range is longer
pub touched_longer : (from until end : ℕ) (ps : List Part) → until ≤ end → touched from until ps ≤ touched from end ps
touched_longer from until end [] h = omega arith
touched_longer from until end (p ∷ ps) h =
    let k : until - part_len p ≤ end - part_len p = omega arith in
    omega (arith, touched_longer (from - part_len p) (until - part_len p) (end - part_len p) ps k)

-- none by no bytes
touched_by_none : (from : ℕ) (ps : List Part) → touched from 0 ps ≡ 0
touched_by_none from [] = refl
touched_by_none from (p ∷ ps) =
    let z : 0 - part_len p ≡ 0 = omega arith in
    rw z (omega (arith, touched_by_none (from - part_len p) ps))

-- at most all
pub touched_at_most : (from until : ℕ) (ps : List Part) → touched from until ps ≤ length ps
touched_at_most from until [] = omega arith
touched_at_most from until (p ∷ ps) = omega (arith, touched_at_most (from - part_len p) (until - part_len p) ps)

-- all of a node by its whole text
pub touched_by_whole : (until : ℕ) (n : Node) → IsSound n → len_of n ≤ until → length (parts n) ≤ touched 0 until (parts n)
touched_by_whole until (Leaf len bytes start mark) s h = omega (arith, s.0)
touched_by_whole until (Run byte len) s h = omega (arith, s.0)
touched_by_whole until (Func id len start) s h = omega (arith, s.0)
touched_by_whole until (Cat' mark depth len p left q right count) s h =
    let z : 0 - len_of left ≡ 0 = omega arith in
    let e : touched 0 until (parts left ++ parts right) ≡ touched 0 until (parts left) + touched 0 (until - len_of left) (parts right) =
    rw z at (touched_sides 0 until left right s.0) in
    let k : len_of left ≤ until = omega (arith, s.2) in
    let l : len_of right ≤ until - len_of left = omega (arith, s.2) in
    omega (
      arith,
      e,
      length-append (parts left) (parts right),
      touched_by_whole until left s.0 k,
      touched_by_whole (until - len_of left) right s.1 l,
    )

-- the same, where the range is reported
pub touched_by_all : (from count : ℕ) (n : Node) → IsSound n → count ≡ len_of n → from + count ≤ len_of n →
    length (parts n) ≤ touched from (from + count) (parts n)
touched_by_all from count n s e h =
    let z : from ≡ 0 = omega arith in
    rw z (touched_by_whole (0 + count) n s (omega arith))

-- what is in front of a range and what is after it share at most one part
pub touched_around : (from until end : ℕ) (ps : List Part) → from ≤ until →
    touched 0 from ps + touched until end ps ≤ length ps + 1
touched_around from until end [] h = omega arith
touched_around from until end (p ∷ ps) h =
    let z : 0 - part_len p ≡ 0 = omega arith in
    rw z (⊎_elim
    (λ (inside : from < part_len p). let f : from - part_len p ≡ 0 = omega arith in
    rw f (omega (arith, touched_by_none 0 ps, touched_at_most (until - part_len p) (end - part_len p) ps)))
    (λ (past : part_len p ≤ from). let k : from - part_len p ≤ until - part_len p = omega arith in
    omega (arith, touched_around (from - part_len p) (until - part_len p) (end - part_len p) ps k))
    (cases_lt from (part_len p)))

-- a range of the left side, of the right one and of both
pub touched_left : (from count some : ℕ) (left right : Node) → IsSound left → some ≤ touched from (from + count) (parts left) →
    some ≤ touched from (from + count) (parts left ++ parts right)
touched_left from count some left right s h = omega (arith, touched_sides from (from + count) left right s)

pub touched_right : (from count seam some : ℕ) (left right : Node) → IsSound left → seam ≡ len_of left → seam ≤ from →
    some ≤ touched (from - seam) (from - seam + count) (parts right) → some ≤ touched from (from + count) (parts left ++ parts right)
touched_right from count seam some left right s at after h =
    let e : from + count - seam ≡ from - seam + count = omega arith in
    let all : touched from (from + count) (parts left ++ parts right)
    ≡ touched from (from + count) (parts left) + touched (from - seam) (from + count - seam) (parts right) =
    rw at (touched_sides from (from + count) left right s) in
    let k : some ≤ touched (from - seam) (from + count - seam) (parts right) = rw e h in
    omega (arith, all, k)

pub touched_both : (from count seam some : ℕ) (left right : Node) (ps qs : List Part) → IsSound left → seam ≡ len_of left → from < seam →
    seam < from + count → length ps ≤ touched from (from + (seam - from)) (parts left) →
    length qs ≤ touched 0 (0 + (from + count - seam)) (parts right) → some ≤ length (ps ++ qs) →
    some ≤ touched from (from + count) (parts left ++ parts right)
touched_both from count seam some left right ps qs s at before after h k l =
    let z : from - seam ≡ 0 = omega arith in
    let all : touched from (from + count) (parts left ++ parts right)
    ≡ touched from (from + count) (parts left) + touched 0 (from + count - seam) (parts right) =
    rw (← z, at) (touched_sides from (from + count) left right s) in
    let w : 0 + (from + count - seam) ≡ from + count - seam = omega arith in
    let m : length qs ≤ touched 0 (from + count - seam) (parts right) = rw w at k in
    let longer : from + (seam - from) ≤ from + count = omega arith in
    omega (arith, all, m, length-append ps qs, touched_longer from (from + (seam - from)) (from + count) (parts left) longer)
