-- The text of a node and of its ranges.
use Rattle.std.proofs.Common.{◌≡◌, ℕ, ◌+◌, ◌-◌, ◌<◌, ◌≤◌, List, [], ◌∷◌, ◌++◌, length, map, take, drop, refl, arith, ◌∙◌, sym, ap}
use Rattle.std.proofs.Common.{append_assoc, append-nil, length-append, length-drop}
use Rattle.std.specs.Prelude.{replicate}
use Rattle.std.specs.List.{range_with_len}
use Rattle.std.specs.Rc.{rc_slice_items}
use Rattle.std.proofs.lemmas.List.{take-map, drop-map, length-map, length-replicate, take-replicate, drop-replicate, length-take-le}
use Rattle.std.proofs.lemmas.List.FromFn.{length-range_with_len}
use Rattle.cord_node.specs.declared.Node.{Node}
use Rattle.cord_node.specs.declared.Node.TheVariants.{Leaf, Run, Func, Cat'}
use Rattle.cord_io.specs.declared.TheConstants.{MAX_LEN}
use Rattle.cord_node.specs.Tree.{Cell, known, held_by, cells, len_of, depth_of, count_of, true_len, true_depth, IsSound}
use Rattle.cord_node.specs.PartsFrom.{Part, leaf_part, run_part, func_part, parts}
use Rattle.cord_node.proofs.Ranges.{range_of_range, drop-range_with_len, take-range_with_len}

-- a node stores the length of its text
pub length-cells : (n : Node) → IsSound n → length (cells n) ≡ len_of n
length-cells (Leaf len bytes start mark) s =
    let d : len ≤ length (drop start (rc_slice_items bytes)) = rw length-drop (omega arith) in
    length-map (take len (drop start (rc_slice_items bytes))) known ∙ length-take-le len (drop start (rc_slice_items bytes)) d
length-cells (Run byte len) s = length-replicate len (known byte)
length-cells (Func id len start) s = length-map (range_with_len start len) (held_by id.0) ∙ length-range_with_len start len
length-cells (Cat' mark depth len p left q right count) s =
    length-append (cells left) (cells right) ∙ (let a : length (cells left) ≡ len_of left = length-cells left s.0 in
    let b : length (cells right) ≡ len_of right = length-cells right s.1 in omega arith)

-- a range of a leaf's text
pub range_of_leaf : (xs : List ℕ) (start len from count : ℕ) → from + count ≤ len → map known (take count (drop (start + from) xs))
    ≡ take count (drop from (map known (take len (drop start xs))))
range_of_leaf xs start len from count h = sym (rw (drop-map, take-map, range_of_range xs from count start len h) refl)

-- a range of a run's text
pub range_of_run : (x : Cell) (len from count : ℕ) → from + count ≤ len → replicate count x ≡ take count (drop from (replicate len x))
range_of_run x len from count h = let k : count ≤ len - from = omega arith in
    sym (rw (drop-replicate from len x, take-replicate count (len - from) x k) refl)

-- a range of a function part's text
pub range_of_func : (f : ℕ → Cell) (start len from count : ℕ) → from + count ≤ len →
    map f (range_with_len (start + from) count) ≡ take count (drop from (map f (range_with_len start len)))
range_of_func f start len from count h =
    let k : count ≤ len - from = omega arith in
    sym (rw (drop-map, take-map, drop-range_with_len start len from, take-range_with_len (start + from) (len - from) count k) refl)

-- what a node stores is within the limits
pub len_limit : (n : Node) → IsSound n → len_of n ≤ MAX_LEN
len_limit (Leaf len bytes start mark) s = s.2
len_limit (Run byte len) s = s.1
len_limit (Func id len start) s = omega arith
len_limit (Cat' mark depth len p left q right count) s = s.4

-- no node is empty
pub len_positive : (n : Node) → IsSound n → 0 < len_of n
len_positive (Leaf len bytes start mark) s = s.0
len_positive (Run byte len) s = s.0
len_positive (Func id len start) s = s.0
len_positive (Cat' mark depth len p left q right count) s = let a : 0 < len_of left = len_positive left s.0 in
    let e : len ≡ len_of left + len_of right = s.2 in omega arith

-- the stored length is the true one
pub true_len-len_of : (n : Node) → IsSound n → len_of n ≡ true_len n
true_len-len_of (Leaf len bytes start mark) s = refl
true_len-len_of (Run byte len) s = refl
true_len-len_of (Func id len start) s = refl
true_len-len_of (Cat' mark depth len p left q right count) s = let a : len_of left ≡ true_len left = true_len-len_of left s.0 in
    let b : len_of right ≡ true_len right = true_len-len_of right s.1 in omega arith

-- the stored depth is the true one
pub true_depth-depth_of : (n : Node) → IsSound n → depth_of n ≡ true_depth n
true_depth-depth_of (Leaf len bytes start mark) s = refl
true_depth-depth_of (Run byte len) s = refl
true_depth-depth_of (Func id len start) s = refl
true_depth-depth_of (Cat' mark depth len p left q right count) s = let a : depth_of left ≡ true_depth left = true_depth-depth_of left s.0 in
    let b : depth_of right ≡ true_depth right = true_depth-depth_of right s.1 in omega arith

-- the places of one part
abbrev pub part_cells : Part → List Cell
part_cells (leaf_part bytes start len) = map known (take len (drop start bytes))
part_cells (run_part byte len) = replicate len (known byte)
part_cells (func_part id start len) = map (held_by id) (range_with_len start len)

-- those of parts, in order
abbrev pub all_part_cells : List Part → List Cell
all_part_cells [] = []
all_part_cells (p ∷ ps) = part_cells p ++ all_part_cells ps

pub all_part_cells-append : (ps qs : List Part) → all_part_cells (ps ++ qs) ≡ all_part_cells ps ++ all_part_cells qs
all_part_cells-append [] qs = refl
all_part_cells-append (p ∷ ps) qs = ap (λ (l : List Cell). part_cells p ++ l) (all_part_cells-append ps qs)
    ∙ sym (append_assoc (part_cells p) (all_part_cells ps) (all_part_cells qs))

-- a node's text is that of its parts
pub cells-parts : (n : Node) → cells n ≡ all_part_cells (parts n)
cells-parts (Leaf len bytes start mark) = sym (append-nil (map known (take len (drop start (rc_slice_items bytes)))))
cells-parts (Run byte len) = sym (append-nil (replicate len (known byte)))
cells-parts (Func id len start) = sym (append-nil (map (held_by id.0) (range_with_len start len)))
cells-parts (Cat' mark depth len p left q right count) = rw (cells-parts left, cells-parts right)
    (sym (all_part_cells-append (parts left) (parts right)))

-- nodes of the same parts have one text
pub same_parts-cells : (m n : Node) → parts m ≡ parts n → cells m ≡ cells n
same_parts-cells m n e = cells-parts m ∙ ap all_part_cells e ∙ sym (cells-parts n)

-- the stored number of parts is the true one
pub count_of-parts : (n : Node) → IsSound n → count_of n ≡ length (parts n)
count_of-parts (Leaf len bytes start mark) s = refl
count_of-parts (Run byte len) s = refl
count_of-parts (Func id len start) s = refl
count_of-parts (Cat' mark depth len p left q right count) s =
    omega (arith, s.7, count_of-parts left s.0, count_of-parts right s.1, length-append (parts left) (parts right))

-- no part is empty, so there are no more parts than bytes
pub count_within_len : (n : Node) → IsSound n → count_of n ≤ len_of n
count_within_len (Leaf len bytes start mark) s = omega (arith, s.0)
count_within_len (Run byte len) s = omega (arith, s.0)
count_within_len (Func id len start) s = omega (arith, s.0)
count_within_len (Cat' mark depth len p left q right count) s =
    omega (arith, s.2, s.7, count_within_len left s.0, count_within_len right s.1)

-- so they are within the limit
pub count_limit : (n : Node) → IsSound n → count_of n ≤ MAX_LEN
count_limit n s = omega (arith, count_within_len n s, len_limit n s)

-- and at least one
pub count_positive : (n : Node) → IsSound n → 0 < count_of n
count_positive (Leaf len bytes start mark) s = omega arith
count_positive (Run byte len) s = omega arith
count_positive (Func id len start) s = omega arith
count_positive (Cat' mark depth len p left q right count) s = omega (arith, s.7, count_positive left s.0)
