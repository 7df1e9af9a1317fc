-- One text in the place of a range of another.
use Rattle.std.proofs.Common.{◌≡◌, ℕ, ◌+◌, ◌≤◌, List, ◌++◌, length, take, drop, refl, arith, ◌∙◌}
use Rattle.std.specs.Prelude.{min}
use Rattle.std.proofs.lemmas.List.{take_min, drop_min}
use Rattle.cord_node.specs.PartsFrom.{Part, AreFrom, PartsFrom}
use Rattle.cord_node.specs.Touched.{touched, AtMostOneMore}
use Rattle.cord_node.proofs.PartsFromLemmas.{AreFrom-append, AreFrom-append_left, AreFrom-append_right, AreFrom-self, AreFrom-trans}
use Rattle.cord_node.proofs.SpliceLemmas.{AreFrom-both}
use Rattle.cord_node.proofs.TouchedLemmas.{touched_around}

-- the parts of three texts, one after the other
pub joined_parts : (prefix middle back longer all : List Part) → AreFrom longer (prefix ++ middle) → AreFrom all (longer ++ back) →
    AreFrom all (prefix ++ middle ++ back)
joined_parts prefix middle back longer all l a = AreFrom-trans all (longer ++ back) (prefix ++ middle ++ back) a
    (AreFrom-both (prefix ++ middle) back longer back l (AreFrom-self back))

-- where the first and the last are cut out of one
pub cut_parts : (old middle prefix back all : List Part) → AreFrom prefix old → AreFrom back old → AreFrom all (prefix ++ middle ++ back) →
    AreFrom all (old ++ middle)
cut_parts old middle prefix back all f b a = AreFrom-trans all (prefix ++ middle ++ back) (old ++ middle) a
    (AreFrom-append (prefix ++ middle) back (old ++ middle) (AreFrom-both old middle prefix middle f (AreFrom-self middle))
    (AreFrom-append_left back old middle b))

-- the parts of one that was made of the same texts in other trees
pub balanced_parts : (old middle changed other all : List Part) → AreFrom changed old → AreFrom other middle →
    AreFrom all (changed ++ other) → AreFrom all (old ++ middle)
balanced_parts old middle changed other all c o a = AreFrom-trans all (changed ++ other) (old ++ middle) a
    (AreFrom-both old middle changed other c o)

-- the parts of one that is as it was, and of one that took the other's place
pub old_parts : (old middle : List Part) → AreFrom old (old ++ middle)
old_parts old middle = AreFrom-append_left old old middle (AreFrom-self old)

pub new_parts : (old middle : List Part) → AreFrom middle (old ++ middle)
new_parts old middle = AreFrom-append_right middle old middle (AreFrom-self middle)

-- how many parts there are where the first and the last are cut out of one
pub cut_few : (from until count : ℕ) (old middle changed other prefix back all : List Part) → from ≤ until → PartsFrom old changed →
    PartsFrom middle other → length prefix ≤ touched 0 (0 + from) changed → length back ≤ touched until (until + count) changed →
    length all ≤ length prefix + length other + length back → AtMostOneMore old middle all
cut_few from until count old middle changed other prefix back all order c o f b a =
    let z : 0 + from ≡ from = omega arith in
    let g : length prefix ≤ touched 0 from changed = rw z at f in
    omega (arith, g, b, a, c.no_more, o.no_more, touched_around from until (until + count) changed order)

-- the range that is cut off at the end of a text
pub clamped_text : {X : Type 0} (xs middle all : List X) (start place limit len from cut until : ℕ) → length xs ≡ len → len ≤ limit →
    from ≡ min start len → cut ≡ min place limit → until ≡ min cut len → all ≡ take from xs ++ middle ++ drop until xs →
    all ≡ take start xs ++ middle ++ drop place xs
clamped_text xs middle all start place limit len from cut until e h f c u t =
    let same : until ≡ min place len = omega (arith, c, u, h) in
    let prefix : take from xs ≡ take start xs = rw (f, ← e) (take_min start xs) in
    let back : drop until xs ≡ drop place xs = rw (same, ← e) (drop_min place xs) in
    t ∙ (rw (prefix, back) refl)
