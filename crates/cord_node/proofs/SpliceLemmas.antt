-- One text in the place of a range of another.
use Rattle.std.proofs.Common.{◌≡◌, ℕ, ◌+◌, ◌-◌, ◌≤◌, List, [], ◌∷◌, ◌++◌, map, length, take, drop}
use Rattle.std.proofs.Common.{refl, arith, ◌∙◌, sym, ap, subst, append_assoc}
use Rattle.std.proofs.Common.{length-drop, length-append, append-nil}
use Rattle.std.specs.Prelude.{max, Option, Some}
use Rattle.std.proofs.lemmas.List.{take-append-le, drop-append-le, take_all, drop_all, map-append, take-map, drop-map}
use Rattle.cord_node.specs.declared.Node.{Node}
use Rattle.cord_node.specs.declared.Node.TheVariants.{Leaf, Run, Func, Cat'}
use Rattle.cord_node.specs.declared.TheConstants.{SMALL_LEN}
use Rattle.cord_node.specs.Tree.{Cell, known, cells, len_of, depth_of, IsSound}
use Rattle.cord_node.specs.PartsFrom.{Part, leaf_part, parts, AreFrom, PartsFrom}
use Rattle.cord_node.specs.Touched.{touched, AtMostOneMore}
use Rattle.cord_node.specs.Cords.{text, text_len, depth, parts_of, IsCord}
use Rattle.cord_node.specs.inner.Splices.{IsSplice}
use Rattle.cord_node.specs.inner.Splices.{LeftTakes, RightTakes, BothTake, AreSpliced, AreSides}
use Rattle.cord_node.proofs.PartsFromLemmas.{IsFrom-small, AreFrom-append, AreFrom-append_left, AreFrom-append_right}
use Rattle.cord_node.proofs.PartsFromLemmas.{AreFrom-self, AreFrom-trans}
use Rattle.cord_node.proofs.TouchedLemmas.{touched_around}
use Rattle.cord_node.proofs.Ranges.{take-append_right, drop-append_right}
use Rattle.cord_node.proofs.TreeLemmas.{length-cells}

-- two lists of parts, one after the other
pub AreFrom-both : (a b ps qs : List Part) → AreFrom ps a → AreFrom qs b → AreFrom (ps ++ qs) (a ++ b)
AreFrom-both a b ps qs h k = AreFrom-append ps qs (a ++ b) (AreFrom-append_left ps a b h) (AreFrom-append_right qs a b k)

-- three joined, the first two of them first
pub three_left : (prefix middle back two all : List Part) → AreFrom two (prefix ++ middle) → AreFrom all (two ++ back) →
    AreFrom all (prefix ++ middle ++ back)
three_left prefix middle back two all h k = AreFrom-trans all (two ++ back) (prefix ++ middle ++ back) k
    (AreFrom-both (prefix ++ middle) back two back h (AreFrom-self back))

-- and the last two first
pub three_right : (prefix middle back two all : List Part) → AreFrom two (middle ++ back) → AreFrom all (prefix ++ two) →
    AreFrom all (prefix ++ middle ++ back)
three_right prefix middle back two all h k = rw (append_assoc prefix middle back)
    (AreFrom-trans all (prefix ++ two) (prefix ++ (middle ++ back)) k
    (AreFrom-both prefix (middle ++ back) prefix two (AreFrom-self prefix) h))

-- what is left in front and after, with the middle between them
pub replaced_is : (from until end : ℕ) (middle : Option Node) (old : Node) (prefix back all : Option Node) (new : Node) →
    IsSound old → until ≤ len_of old → end ≡ len_of old → all ≡ Some new → IsCord all →
    text prefix ≡ take (from - 0) (drop 0 (cells old)) → text back ≡ take (end - until) (drop until (cells old)) →
    text all ≡ text prefix ++ text middle ++ text back →
    text_len prefix ≡ from - 0 → text_len back ≡ end - until → text_len all ≡ text_len prefix + text_len middle + text_len back →
    depth prefix ≤ depth_of old → depth back ≤ depth_of old →
    depth all ≤ max (max (depth prefix) (depth middle)) (depth back) + 2 →
    AreFrom (parts_of prefix) (parts old) → AreFrom (parts_of back) (parts old) →
    AreFrom (parts_of all) (parts_of prefix ++ parts_of middle ++ parts_of back) →
    length (parts_of prefix) ≤ touched 0 from (parts old) → length (parts_of back) ≤ touched until end (parts old) →
    length (parts_of all) ≤ length (parts_of prefix) + length (parts_of middle) + length (parts_of back) → from ≤ until →
    IsSplice from until middle old new
replaced_is from until end middle old prefix back all new sound inside last is s t_prefix t_back t l_prefix l_back l d_prefix d_back d
    f_prefix
    f_back f n_prefix n_back n order =
    let zero : from - 0 ≡ from = omega arith in
    let long : length (drop until (cells old)) ≤ end - until =
    rw (length-drop until (cells old), length-cells old sound) (omega (arith, last)) in
    let rest : text back ≡ drop until (cells old) = t_back ∙ take_all (end - until) (drop until (cells old)) long in
    let start : text prefix ≡ take from (cells old) = t_prefix ∙ ap (λ (k : ℕ). take k (cells old)) zero in
    let len_is : text_len all ≡ len_of new = ap text_len is in
    let depth_is : depth all ≡ depth_of new = ap depth is in
    let parts_are : length (parts_of all) ≡ length (parts new) = ap (λ (o : Option Node). length (parts_of o)) is in
    let come : AreFrom (parts_of all) (parts old ++ parts_of middle) =
    AreFrom-trans (parts_of all) (parts_of prefix ++ parts_of middle ++ parts_of back) (parts old ++ parts_of middle) f
    (AreFrom-append (parts_of prefix ++ parts_of middle) (parts_of back) (parts old ++ parts_of middle)
    (AreFrom-both (parts old) (parts_of middle) (parts_of prefix) (parts_of middle) f_prefix (AreFrom-self (parts_of middle)))
    (AreFrom-append_left (parts_of back) (parts old) (parts_of middle) f_back)) in
    record {
      sound = subst IsCord is s;
      text = sym (ap text is) ∙ (rw (t, start, rest) refl);
      len = omega (arith, len_is, l, l_prefix, l_back, last);
      depth = omega (arith, depth_is, d, d_prefix, d_back);
      from_there = subst (λ o. AreFrom (parts_of o) (parts old ++ parts_of middle)) is come;
      few = omega (arith, parts_are, n, n_prefix, n_back, touched_around from until end (parts old) order);
    }

-- one short leaf of known bytes
pub short_is : (from until : ℕ) (middle : Option Node) (old new : Node) (bytes inner whole : List ℕ) (count : ℕ) →
    from ≤ until → until ≤ len_of old → cells old ≡ map known bytes → length bytes ≡ len_of old →
    text middle ≡ map known inner → length inner ≡ text_len middle → IsSound new →
    cells new ≡ map known (take from bytes ++ inner ++ drop until bytes) → len_of new ≡ count →
    count ≡ from + length inner + (length bytes - until) → depth_of new ≡ 0 → parts new ≡ leaf_part whole 0 count ∷ [] →
    count ≤ SMALL_LEN → IsSplice from until middle old new
short_is from until middle old new bytes inner whole count order inside t l m k s n len c d p small = record {
  sound = s;
  text = n ∙ (rw (t, m, map-append, map-append) (sym (rw (take-map, drop-map) refl)));
  len = omega (arith, len, c, l, k);
  depth = omega (arith, d);
  from_there = rw p (IsFrom-small (leaf_part whole 0 count) (parts old ++ parts_of middle) small, tt);
  few = rw p (omega arith);
}

-- a node that is the text of one and then that of another
pub record HasSides (node left right : Node) : Type 0 where
  pub left_sound : IsSound left
  pub right_sound : IsSound right
  pub text : cells node ≡ cells left ++ cells right
  pub len : len_of node ≡ len_of left + len_of right
  pub depth : depth_of node ≡ max (depth_of left) (depth_of right) + 1
  pub parts_are : parts node ≡ parts left ++ parts right

-- a node that is joined of two
pub record IsJoined (left right node : Node) : Type 0 where
  pub sound : IsSound node
  pub text : cells node ≡ cells left ++ cells right
  pub len : len_of node ≡ len_of left + len_of right
  pub depth : depth_of node ≤ max (depth_of left) (depth_of right) + 1
  pub from_there : AreFrom (parts node) (parts left ++ parts right)
  pub no_more : length (parts node) ≤ length (parts left ++ parts right)

-- the parts of a side and of the middle are among all
from_left : (left right middle ps : List Part) → AreFrom ps (left ++ middle) → AreFrom ps (left ++ right ++ middle)
from_left left right middle ps h = AreFrom-trans ps (left ++ middle) (left ++ right ++ middle) h
    (AreFrom-append left middle (left ++ right ++ middle)
    (AreFrom-append_left left (left ++ right) middle (AreFrom-append_left left left right (AreFrom-self left)))
    (AreFrom-append_right middle (left ++ right) middle (AreFrom-self middle)))

from_right : (left right middle ps : List Part) → AreFrom ps (right ++ middle) → AreFrom ps (left ++ right ++ middle)
from_right left right middle ps h = AreFrom-trans ps (right ++ middle) (left ++ right ++ middle) h
    (AreFrom-append right middle (left ++ right ++ middle)
    (AreFrom-append_left right (left ++ right) middle (AreFrom-append_right right left right (AreFrom-self right)))
    (AreFrom-append_right middle (left ++ right) middle (AreFrom-self middle)))

-- the number of parts of two sides
few_sides : (left right middle ps qs : List Part) → length ps + length qs ≤ length left + length right + length middle + 1 →
    AtMostOneMore (left ++ right) middle (ps ++ qs)
few_sides left right middle ps qs h = omega (arith, length-append left right, length-append ps qs)

-- the left side was changed
pub left_changed : (from until : ℕ) (middle : Option Node) (left right changed : Node) → from ≤ until → IsSound left → IsSound right →
    LeftTakes from until middle left right → IsSplice from until middle left changed → AreSpliced from until middle left right changed right
left_changed from until middle left right changed order a b takes i =
    let here : until ≤ length (cells left) = rw (length-cells left a) takes.inside in
    let before : from ≤ length (cells left) = omega arith in
    let prefix : take from (cells left ++ cells right) ≡ take from (cells left) = take-append-le from (cells left) (cells right) before in
    let back : drop until (cells left ++ cells right) ≡ drop until (cells left) ++ cells right =
    drop-append-le until (cells left) (cells right) here in
    record {
      left_sound = i.sound;
      right_sound = b;
      text = rw (i.text, prefix, back) (append_assoc (take from (cells left) ++ text middle) (drop until (cells left)) (cells right));
      len = omega (arith, i.len, takes.inside);
      depth = omega (arith, i.depth, takes.deep);
      from_there = AreFrom-append (parts changed) (parts right) (parts left ++ parts right ++ parts_of middle)
          (from_left (parts left) (parts right) (parts_of middle) (parts changed) i.from_there)
          (from_right (parts left) (parts right) (parts_of middle) (parts right)
          (AreFrom-append_left (parts right) (parts right) (parts_of middle) (AreFrom-self (parts right))));
      few = few_sides (parts left) (parts right) (parts_of middle) (parts changed) (parts right) (omega (arith, i.few));
    }

-- the right side was changed
right_changed : (from until : ℕ) (middle : Option Node) (left right changed : Node) → from ≤ until → IsSound left → IsSound right →
    RightTakes from until middle left right → IsSplice (from - len_of left) (until - len_of left) middle right changed →
    AreSpliced from until middle left right left changed
right_changed from until middle left right changed order a b takes i =
    let l : length (cells left) ≡ len_of left = length-cells left a in
    let before : length (cells left) ≤ from = omega (arith, takes.0) in
    let here : length (cells left) ≤ until = omega arith in
    let prefix : take from (cells left ++ cells right) ≡ cells left ++ take (from - len_of left) (cells right) =
    take-append_right (cells left) (cells right) from before ∙ ap (λ (k : ℕ). cells left ++ take (from - k) (cells right)) l in
    let back : drop until (cells left ++ cells right) ≡ drop (until - len_of left) (cells right) =
    drop-append_right (cells left) (cells right) until here ∙ ap (λ (k : ℕ). drop (until - k) (cells right)) l in
    let s : List Cell = take (from - len_of left) (cells right) in
    let d : List Cell = drop (until - len_of left) (cells right) in
    let moved : cells left ++ (s ++ text middle ++ d) ≡ (cells left ++ s) ++ text middle ++ d =
    sym (append_assoc (cells left) (s ++ text middle) d)
    ∙ ap (λ (l : List Cell). l ++ d) (sym (append_assoc (cells left) s (text middle))) in
    record {
      left_sound = a;
      right_sound = i.sound;
      text = rw (i.text, prefix, back) moved;
      len = omega (arith, i.len, takes.1.inside, takes.0, order);
      depth = omega (arith, i.depth, takes.1.deep);
      from_there = AreFrom-append (parts left) (parts changed) (parts left ++ parts right ++ parts_of middle)
          (from_left (parts left) (parts right) (parts_of middle) (parts left)
          (AreFrom-append_left (parts left) (parts left) (parts_of middle) (AreFrom-self (parts left))))
          (from_right (parts left) (parts right) (parts_of middle) (parts changed) i.from_there);
      few = few_sides (parts left) (parts right) (parts_of middle) (parts left) (parts changed) (omega (arith, i.few));
    }

-- both sides were changed
both_changed : (from until : ℕ) (middle : Option Node) (left right changed rest : Node) → from ≤ until → IsSound left → IsSound right →
    BothTake from until middle left right → IsSplice from (len_of left) middle left changed → IsSound rest →
    cells rest ≡ take (len_of right - (until - len_of left)) (drop (until - len_of left) (cells right)) →
    len_of rest ≡ len_of right - (until - len_of left) → depth_of rest ≤ depth_of right → PartsFrom (parts right) (parts rest) →
    AreSpliced from until middle left right changed rest
both_changed from until middle left right changed rest order a b takes i s t l d k =
    let ll : length (cells left) ≡ len_of left = length-cells left a in
    let lr : length (cells right) ≡ len_of right = length-cells right b in
    let before : from ≤ length (cells left) = omega (arith, takes.0) in
    let here : length (cells left) ≤ until = omega (arith, takes.1) in
    let prefix : take from (cells left ++ cells right) ≡ take from (cells left) = take-append-le from (cells left) (cells right) before in
    let back : drop until (cells left ++ cells right) ≡ drop (until - len_of left) (cells right) =
    drop-append_right (cells left) (cells right) until here ∙ ap (λ (k : ℕ). drop (until - k) (cells right)) ll in
    let long : length (drop (until - len_of left) (cells right)) ≤ len_of right - (until - len_of left) =
    rw (length-drop (until - len_of left) (cells right), lr) (omega arith) in
    let all : cells rest ≡ drop (until - len_of left) (cells right) =
    t ∙ take_all (len_of right - (until - len_of left)) (drop (until - len_of left) (cells right)) long in
    let past : length (cells left) ≤ len_of left = omega arith in
    let none : drop (len_of left) (cells left) ≡ [] = drop_all (len_of left) (cells left) past in
    record {
      left_sound = i.sound;
      right_sound = s;
      text = rw (i.text, none, all, prefix, back, append-nil (take from (cells left) ++ text middle)) refl;
      len = omega (arith, i.len, l, takes.0, takes.1, takes.2);
      depth = omega (arith, i.depth, d, takes.3.deep);
      from_there = AreFrom-append (parts changed) (parts rest) (parts left ++ parts right ++ parts_of middle)
          (from_left (parts left) (parts right) (parts_of middle) (parts changed) i.from_there)
          (from_right (parts left) (parts right) (parts_of middle) (parts rest)
          (AreFrom-append_left (parts rest) (parts right) (parts_of middle) k.from_there));
      few = few_sides (parts left) (parts right) (parts_of middle) (parts changed) (parts rest) (omega (arith, i.few, k.no_more));
    }

-- the same, where the lengths are reported
pub right_changed_at : (from until seam : ℕ) (middle : Option Node) (left right changed : Node) → seam ≡ len_of left → from ≤ until →
    IsSound left → IsSound right → RightTakes from until middle left right →
    IsSplice (from - seam) (until - seam) middle right changed → AreSpliced from until middle left right left changed
right_changed_at from until seam middle left right changed at order a b takes i =
    right_changed from until middle left right changed order a b takes
    (subst (λ n. IsSplice (from - n) (until - n) middle right changed) at i)

pub both_changed_at : (from until seam end : ℕ) (middle : Option Node) (left right changed rest : Node) → seam ≡ len_of left →
    end ≡ len_of right → from ≤ until → IsSound left → IsSound right → BothTake from until middle left right →
    IsSplice from seam middle left changed → IsSound rest →
    cells rest ≡ take (end - (until - seam)) (drop (until - seam) (cells right)) → len_of rest ≡ end - (until - seam) →
    depth_of rest ≤ depth_of right → PartsFrom (parts right) (parts rest) → AreSpliced from until middle left right changed rest
both_changed_at from until seam end middle left right changed rest at last order a b takes i s t l d k =
    both_changed from until middle left right changed rest order a b takes
    (subst (λ n. IsSplice from n middle left changed) at i) s (t ∙ (rw (at, last) refl)) (l ∙ (rw (at, last) refl)) d k

-- a sound concatenation has its sides
pub sides_are : (node left right : Node) → IsSound node → AreSides node left right → HasSides node left right
sides_are (Leaf len bytes start mark) left right s h = absurd h
sides_are (Run byte len) left right s h = absurd h
sides_are (Func id len start) left right s h = absurd h
sides_are (Cat' mark depth len p a q b count) left right s h = rw (h.0, h.1) (record {
  left_sound = s.0;
  right_sound = s.1;
  text = refl;
  len = s.2;
  depth = s.3;
  parts_are = refl;
})

-- what is joined of the changed sides
pub joined_spliced : (from until : ℕ) (middle : Option Node) (old old_left old_right left right new : Node) → IsSound old →
    AreSides old old_left old_right → AreSpliced from until middle old_left old_right left right → IsJoined left right new →
    IsSplice from until middle old new
joined_spliced from until middle old old_left old_right left right new s sides i joined =
    let a : HasSides old old_left old_right = sides_are old old_left old_right s sides in
    record {
      sound = joined.sound;
      text = rw a.text (joined.text ∙ i.text);
      len = omega (arith, joined.len, i.len, a.len);
      depth = omega (arith, joined.depth, i.depth, a.depth);
      from_there = rw a.parts_are (AreFrom-trans (parts new) (parts left ++ parts right)
          (parts old_left ++ parts old_right ++ parts_of middle) joined.from_there i.from_there);
      few = rw a.parts_are (omega (arith, joined.no_more, i.few));
    }

-- what `join` says of its result
pub join_is : (left right new : Node) → IsSound new → cells new ≡ cells left ++ cells right → len_of new ≡ len_of left + len_of right →
    depth_of new ≤ max (depth_of left) (depth_of right) + 1 → PartsFrom (parts left ++ parts right) (parts new) → IsJoined left right new
join_is left right new s t l d k = record { sound = s; text = t; len = l; depth = d; from_there = k.from_there; no_more = k.no_more }
