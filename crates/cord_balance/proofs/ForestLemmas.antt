-- Laws of forests: one more piece, and one less.
use Rattle.std.proofs.Common.{◌≡◌, ℕ, ◌+◌, ◌-◌, ◌<◌, ◌≤◌, List, [], ◌∷◌, ◌++◌, refl, arith, ◌∙◌, sym, ap, append_assoc, append-nil}
use Rattle.std.specs.Prelude.{max, Some, slice_get, length, suc, Bool, true, false, if◌then◌else◌}
use Rattle.cord_io.specs.declared.TheConstants.{MAX_LEN, MAX_DEPTH}
use Rattle.cord_balance.specs.declared.TheConstants.{MAX_INDEX}
use Rattle.cord_node.specs.Tree.{Cell, cells, len_of, depth_of, count_of, are_merged, joined_depth, joined_count}
use Rattle.cord_node.specs.PartsFrom.{Part, parts}
use Rattle.cord_node.specs.declared.Node.{Node}
use Rattle.cord_node.proofs.PartsFromLemmas.{PartsFrom_same}
use Rattle.cord_node.proofs.TreeLemmas.{count_within_len}
use Rattle.cord_balance.specs.Fib.{fib_of}
use Rattle.cord_balance.specs.declared.forest.Piece.{Piece}
use Rattle.cord_balance.specs.inner.Forest.{IsPieceInSlot, AllBelow, AllFrom, IsForest, forest_cells, forest_parts, forest_len}
use Rattle.cord_balance.proofs.FibLemmas.{fib_mono, fib_index, fib_of_2}
use Rattle.std.proofs.lemmas.Bool.{cases_lt}
use Rattle.std.proofs.Common.{⊎_elim}

-- the text with one more piece
pub forest_cells-snoc : (ps : List Piece) (p : Piece) → forest_cells (ps ++ p ∷ []) ≡ forest_cells ps ++ cells p.node.value
forest_cells-snoc [] p = append-nil (cells p.node.value)
forest_cells-snoc (q ∷ ps) p = ap (λ (l : List Cell). cells q.node.value ++ l) (forest_cells-snoc ps p)
    ∙ sym (append_assoc (cells q.node.value) (forest_cells ps) (cells p.node.value))

-- the parts with one more piece
pub forest_parts-snoc : (ps : List Piece) (p : Piece) → forest_parts (ps ++ p ∷ []) ≡ forest_parts ps ++ parts p.node.value
forest_parts-snoc [] p = append-nil (parts p.node.value)
forest_parts-snoc (q ∷ ps) p = ap (λ (l : List Part). parts q.node.value ++ l) (forest_parts-snoc ps p)
    ∙ sym (append_assoc (parts q.node.value) (forest_parts ps) (parts p.node.value))

-- the length with one more piece
pub forest_len-snoc : (ps : List Piece) (p : Piece) → forest_len (ps ++ p ∷ []) ≡ forest_len ps + len_of p.node.value
forest_len-snoc [] p = omega arith
forest_len-snoc (q ∷ ps) p = omega (arith, forest_len-snoc ps p)

-- at least a number is at least a lesser one
pub AllFrom-lower : (j k : ℕ) (ps : List Piece) → j ≤ k → AllFrom k ps → AllFrom j ps
AllFrom-lower j k [] h a = tt
AllFrom-lower j k (p ∷ ps) h a = (omega (arith, a.0), AllFrom-lower j k ps h a.1)

-- the last one
pub AllFrom-last : (k : ℕ) (ps : List Piece) (p : Piece) → AllFrom k (ps ++ p ∷ []) → k ≤ p.slot
AllFrom-last k [] p a = a.0
AllFrom-last k (q ∷ ps) p a = AllFrom-last k ps p a.1

-- without the last one
AllBelow-init : (k : ℕ) (ps : List Piece) (p : Piece) → AllBelow k (ps ++ p ∷ []) → AllBelow k ps
AllBelow-init k [] p a = tt
AllBelow-init k (q ∷ ps) p a = (a.0, AllBelow-init k ps p a.1)

-- the last one
AllBelow-last : (k : ℕ) (ps : List Piece) (p : Piece) → AllBelow k (ps ++ p ∷ []) → p.slot < k
AllBelow-last k [] p a = a.0
AllBelow-last k (q ∷ ps) p a = AllBelow-last k ps p a.1

-- with one more slot below k
AllBelow-snoc : (k : ℕ) (ps : List Piece) (p : Piece) → AllBelow k ps → p.slot < k → AllBelow k (ps ++ p ∷ [])
AllBelow-snoc k [] p a h = (h, tt)
AllBelow-snoc k (q ∷ ps) p a h = (a.0, AllBelow-snoc k ps p a.1 h)

-- a forest without its last piece
pub IsForest-init : (ps : List Piece) (p : Piece) → IsForest (ps ++ p ∷ []) → IsForest ps
IsForest-init [] p f = tt
IsForest-init (q ∷ ps) p f = (f.0, AllBelow-init q.slot ps p f.1, IsForest-init ps p f.2)

-- the last piece of a forest
pub IsForest-last : (ps : List Piece) (p : Piece) → IsForest (ps ++ p ∷ []) → IsPieceInSlot p
IsForest-last [] p f = f.0
IsForest-last (q ∷ ps) p f = IsForest-last ps p f.2

-- the last slot is the least
pub IsForest-falls : (ps : List Piece) (p : Piece) → IsForest (ps ++ p ∷ []) → AllFrom (p.slot + 1) ps
IsForest-falls [] p f = tt
IsForest-falls (q ∷ ps) p f = (let h : p.slot < q.slot = AllBelow-last q.slot ps p f.1 in omega arith, IsForest-falls ps p f.2)

-- a forest with one more piece of a lesser slot
pub IsForest-push : (ps : List Piece) (p : Piece) → IsForest ps → IsPieceInSlot p → AllFrom (p.slot + 1) ps → IsForest (ps ++ p ∷ [])
IsForest-push [] p f i a = (i, tt, tt)
IsForest-push (q ∷ ps) p f i a = (f.0, AllBelow-snoc q.slot ps p f.1 (omega (arith, a.0)), IsForest-push ps p f.2 i a.1)

-- pieces of slots that no text reaches
pub no_pieces : (ps : List Piece) → IsForest ps → AllFrom MAX_INDEX ps → forest_len ps ≤ MAX_LEN → ps ≡ []
no_pieces [] f a h = refl
no_pieces (p ∷ ps) f a h = let few : count_of p.node.value ≤ len_of p.node.value = count_within_len p.node.value f.0.sound in
    let k : p.slot < MAX_INDEX = fib_index p.slot (omega (arith, f.0.slot.above)) in absurd (omega (arith, a.0))

-- where the last slot is at least k
pub AllFrom-by_last : (k : ℕ) (ps : List Piece) (p : Piece) → Some p ≡ slice_get ps (length ps - 1) → IsForest ps → k ≤ p.slot →
    AllFrom k ps
AllFrom-by_last k [] p e f h = tt
AllFrom-by_last k (q ∷ []) p e f h = let d : p ≡ q = cc in (rw (← d) h, tt)
AllFrom-by_last k (q ∷ r ∷ ps) p e f h =
    let i : length (q ∷ r ∷ ps) - 1 ≡ suc (length (r ∷ ps) - 1) = omega arith in
    let e' : Some p ≡ slice_get (q ∷ r ∷ ps) (suc (length (r ∷ ps) - 1)) = e ∙ ap (λ (n : ℕ). slice_get (q ∷ r ∷ ps) n) i in
    let a : AllFrom k (r ∷ ps) = AllFrom-by_last k (r ∷ ps) p e' f.2 h in
    (let b : r.slot < q.slot = f.1.0 in let d : k ≤ r.slot = a.0 in omega arith, a)

-- what is true of both depths is true of the greater one
fib_max : (dl dr n : ℕ) → fib_of (dl + 1) ≤ n → fib_of (dr + 1) ≤ n → fib_of (max dl dr + 1) ≤ n
fib_max dl dr n a b =
    ⊎_elim (λ (h : dl < dr). let e : max dl dr ≡ dr = omega arith in rw e b) (λ (h : dr ≤ dl). let e : max dl dr ≡ dl = omega arith in
    rw e a) (cases_lt dl dr)

-- the join of two isn't too deep
pub join_fits : (dl dr n : ℕ) → fib_of (dl + 1) ≤ n → fib_of (dr + 1) ≤ n → n ≤ MAX_LEN → max dl dr + 1 ≤ MAX_DEPTH
join_fits dl dr n a b h = let k : fib_of (max dl dr + 1) ≤ n = fib_max dl dr n a b in let i : max dl dr + 1 < MAX_INDEX =
    fib_index (max dl dr + 1) (omega arith) in omega arith

-- the join of two is shallow enough
pub join_shallow : (d dl dr n : ℕ) → fib_of (dl + 1) ≤ n → fib_of (dr + 1) ≤ n → d ≤ max dl dr + 1 → fib_of d ≤ n
join_shallow d dl dr n a b h = let k : fib_of (max dl dr + 1) ≤ n = fib_max dl dr n a b in let i : fib_of d ≤ fib_of (max dl dr + 1) =
    fib_mono d (max dl dr + 1) h in omega arith

-- less deep, and so shallow
pub fib_less : (d n : ℕ) → fib_of (d + 1) ≤ n → fib_of d ≤ n
fib_less d n h = let i : fib_of d ≤ fib_of (d + 1) = fib_mono d (d + 1) (omega arith) in omega arith

-- a leaf that was made of two has depth 0, and else both have all parts
joined_cases : (b : Bool) (d c deep many k : ℕ) → d ≡ (if b then 0 else deep) → c ≡ (if b then 1 else many) → k ≤ 1 →
    fib_of (d + k) ≤ many → fib_of (d + k) ≤ c
joined_cases true d c deep many k e f h g = let m : fib_of (d + k) ≤ fib_of 2 = fib_mono (d + k) 2 (omega arith) in omega (arith, fib_of_2)
joined_cases false d c deep many k e f h g = omega arith

-- what is shallow enough for the parts of two is shallow enough for their join
pub joined_shallow : (left right node : Node) (k : ℕ) → k ≤ 1 → depth_of node ≡ joined_depth left right →
    count_of node ≡ joined_count left right → fib_of (depth_of node + k) ≤ count_of left + count_of right →
    fib_of (depth_of node + k) ≤ count_of node
joined_shallow left right node k h d c g = joined_cases (are_merged left right) (depth_of node) (count_of node)
    (max (depth_of left) (depth_of right) + 1) (count_of left + count_of right) k d c h g

pub ruleset joins = (join_fits, join_shallow, fib_less, append-nil, PartsFrom_same)
