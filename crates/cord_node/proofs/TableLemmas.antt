-- The text of a node over a table is that of its places.
use Rattle.std.proofs.Common.{◌≡◌, ℕ, ◌+◌, ◌<◌, ◌≤◌, List, [], ◌∷◌, ◌++◌, length, map, take, drop, refl, arith, ◌∙◌, sym, ap, zero, suc}
use Rattle.std.specs.Prelude.{replicate, slice_index}
use Rattle.std.specs.List.{range_with_len}
use Rattle.std.specs.Rc.{rc_slice_items}
use Rattle.std.proofs.lemmas.List.{map-append, drop_more}
use Rattle.cord_node.specs.declared.Node.{Node}
use Rattle.cord_node.specs.declared.Node.TheVariants.{Leaf, Run, Func, Cat'}
use Rattle.cord_io.specs.Table.{Table, Lengths, length_at, HasLengths}
use Rattle.cord_node.specs.Tree.{Cell, known, held_by, cells, IsSound}
use Rattle.cord_node.specs.Tables.{bytes_over, FitsIn, lengths_of, Fits, byte_at, AreHeldIn, IsJoinOver}

-- known bytes over a table are themselves
map-known : (t : Table) (xs : List ℕ) → xs ≡ map (byte_at t) (map known xs)
map-known t [] = refl
map-known t (x ∷ xs) = ap (λ (l : List ℕ). x ∷ l) (map-known t xs)

-- so is a repeated one
map-replicate : (t : Table) (n b : ℕ) → replicate n b ≡ map (byte_at t) (replicate n (known b))
map-replicate t zero b = refl
map-replicate t (suc n) b = ap (λ (l : List ℕ). b ∷ l) (map-replicate t n b)

-- places of a source over a table are its range
map-held_by : (t : Table) (id a n : ℕ) → a + n ≤ length (t id) →
    take n (drop a (t id)) ≡ map (byte_at t) (map (held_by id) (range_with_len a n))
map-held_by t id a zero h = refl
map-held_by t id a (suc n) h =
    let k : a < length (t id) = omega arith in
    rw (drop_more (t id) a 0 k) (ap (λ (l : List ℕ). slice_index (t id) a ∷ l) (map-held_by t id (a + 1) n (omega arith)))

-- the text over a table
pub bytes-cells : (t : Table) (n : Node) → Fits t n → bytes_over t n ≡ map (byte_at t) (cells n)
bytes-cells t (Leaf len bytes start mark) f = map-known t (take len (drop start (rc_slice_items bytes)))
bytes-cells t (Run byte len) f = map-replicate t len byte
bytes-cells t (Func id len start) f = map-held_by t id.0 start len f
bytes-cells t (Cat' mark depth len p left q right count) f =
    sym (rw (map-append (byte_at t) (cells left) (cells right), ← bytes-cells t left f.0, ← bytes-cells t right f.1) refl)

-- two lists of held cells
pub AreHeldIn-append : (ls : Lengths) (xs ys : List Cell) → AreHeldIn ls xs → AreHeldIn ls ys → AreHeldIn ls (xs ++ ys)
AreHeldIn-append ls [] ys h k = k
AreHeldIn-append ls (x ∷ xs) ys h k = (h.0, AreHeldIn-append ls xs ys h.1 k)

-- the first of two lists
AreHeldIn-left : (ls : Lengths) (xs ys : List Cell) → AreHeldIn ls (xs ++ ys) → AreHeldIn ls xs
AreHeldIn-left ls [] ys h = tt
AreHeldIn-left ls (x ∷ xs) ys h = (h.0, AreHeldIn-left ls xs ys h.1)

-- the second of two lists
AreHeldIn-right : (ls : Lengths) (xs ys : List Cell) → AreHeldIn ls (xs ++ ys) → AreHeldIn ls ys
AreHeldIn-right ls [] ys h = h
AreHeldIn-right ls (x ∷ xs) ys h = AreHeldIn-right ls xs ys h.1

-- known bytes are held
AreHeldIn-known : (ls : Lengths) (xs : List ℕ) → AreHeldIn ls (map known xs)
AreHeldIn-known ls [] = tt
AreHeldIn-known ls (x ∷ xs) = (tt, AreHeldIn-known ls xs)

-- so is a repeated one
AreHeldIn-replicate : (ls : Lengths) (n b : ℕ) → AreHeldIn ls (replicate n (known b))
AreHeldIn-replicate ls zero b = tt
AreHeldIn-replicate ls (suc n) b = (tt, AreHeldIn-replicate ls n b)

-- a range inside a source is held
AreHeldIn-held_by : (ls : Lengths) (id a n : ℕ) → a + n ≤ length_at ls id → AreHeldIn ls (map (held_by id) (range_with_len a n))
AreHeldIn-held_by ls id a zero h = tt
AreHeldIn-held_by ls id a (suc n) h = (omega arith, AreHeldIn-held_by ls id (a + 1) n (omega arith))

-- a range that is held ends inside its source
held_to_end : (ls : Lengths) (id a n : ℕ) → AreHeldIn ls (map (held_by id) (range_with_len a (suc n))) → a + suc n ≤ length_at ls id
held_to_end ls id a zero h = let k : a < length_at ls id = h.0 in omega arith
held_to_end ls id a (suc n) h = let k : a + 1 + suc n ≤ length_at ls id = held_to_end ls id (a + 1) n h.1 in omega arith

-- the cells of a node that fits are held
pub AreHeldIn-cells : (ls : Lengths) (n : Node) → FitsIn ls n → AreHeldIn ls (cells n)
AreHeldIn-cells ls (Leaf len bytes start mark) f = AreHeldIn-known ls (take len (drop start (rc_slice_items bytes)))
AreHeldIn-cells ls (Run byte len) f = AreHeldIn-replicate ls len byte
AreHeldIn-cells ls (Func id len start) f = AreHeldIn-held_by ls id.0 start len f
AreHeldIn-cells ls (Cat' mark depth len p left q right count) f = AreHeldIn-append ls (cells left) (cells right) (AreHeldIn-cells ls left f.0)
    (AreHeldIn-cells ls right f.1)

-- a range of at least one byte that is held lies inside its source
fits_from_held : (ls : Lengths) (id a n : ℕ) → 0 < n → AreHeldIn ls (map (held_by id) (range_with_len a n)) → a + n ≤ length_at ls id
fits_from_held ls id a zero h k = absurd (omega arith)
fits_from_held ls id a (suc n) h k = held_to_end ls id a n k

-- a sound node whose cells are held fits
pub FitsIn-cells : (ls : Lengths) (n : Node) → IsSound n → AreHeldIn ls (cells n) → FitsIn ls n
FitsIn-cells ls (Leaf len bytes start mark) s h = tt
FitsIn-cells ls (Run byte len) s h = tt
FitsIn-cells ls (Func id len start) s h = fits_from_held ls id.0 start len s.0 h
FitsIn-cells ls (Cat' mark depth len p left q right count) s h = (
  FitsIn-cells ls left s.0 (AreHeldIn-left ls (cells left) (cells right) h),
  FitsIn-cells ls right s.1 (AreHeldIn-right ls (cells left) (cells right) h),
)

-- a prefix of held cells
pub AreHeldIn-take : (ls : Lengths) (n : ℕ) (xs : List Cell) → AreHeldIn ls xs → AreHeldIn ls (take n xs)
AreHeldIn-take ls zero xs h = tt
AreHeldIn-take ls (suc n) [] h = tt
AreHeldIn-take ls (suc n) (x ∷ xs) h = (h.0, AreHeldIn-take ls n xs h.1)

-- what is after a prefix of held cells
pub AreHeldIn-drop : (ls : Lengths) (n : ℕ) (xs : List Cell) → AreHeldIn ls xs → AreHeldIn ls (drop n xs)
AreHeldIn-drop ls zero xs h = h
AreHeldIn-drop ls (suc n) [] h = tt
AreHeldIn-drop ls (suc n) (x ∷ xs) h = AreHeldIn-drop ls n xs h.1

-- over a table a text is that of its cells, and fits where they are held
pub join_over : (l r n : Node) → IsSound n → cells n ≡ cells l ++ cells r → IsJoinOver l r n
join_over l r n s e =
    let fits : (ls : Lengths) → FitsIn ls l → FitsIn ls r → FitsIn ls n =
    λ ls f g. FitsIn-cells ls n s (rw e (AreHeldIn-append ls (cells l) (cells r) (AreHeldIn-cells ls l f) (AreHeldIn-cells ls r g))) in
    record {
      fits = fits;
      bytes = λ t f g. bytes-cells t n (fits (lengths_of t) f g) ∙ (rw (e, map-append, bytes-cells t l f, bytes-cells t r g) refl);
    }

-- where a source is no shorter, what fitted fits
pub FitsIn-longer : (ls ms : Lengths) (n : Node) → ((id : ℕ) → length_at ls id ≤ length_at ms id) → FitsIn ls n → FitsIn ms n
FitsIn-longer ls ms (Leaf len bytes start mark) h f = tt
FitsIn-longer ls ms (Run byte len) h f = tt
FitsIn-longer ls ms (Func id len start) h f = omega (arith, h id.0)
FitsIn-longer ls ms (Cat' mark depth len p left q right count) h f = (FitsIn-longer ls ms left h f.0, FitsIn-longer ls ms right h f.1)

-- where the lengths reported are those of the table, what fits them fits the table
pub Fits-reported : (ls : Lengths) (t : Table) (n : Node) → HasLengths ls t → FitsIn ls n → Fits t n
Fits-reported ls t n h f = FitsIn-longer ls (lengths_of t) n (λ id. let e : length (t id) ≡ length_at ls id = h id in omega arith) f

-- over two tables that have the same text at each source that isn't empty in the first one
pub bytes_over-same : (t u : Table) (n : Node) → ((id : ℕ) → 0 < length (t id) → u id ≡ t id) → IsSound n → Fits t n →
    bytes_over u n ≡ bytes_over t n
bytes_over-same t u (Leaf len bytes start mark) h s f = refl
bytes_over-same t u (Run byte len) h s f = refl
bytes_over-same t u (Func id len start) h s f = let k : 0 < length (t id.0) = omega arith in let e : u id.0 ≡ t id.0 = h id.0 k in rw e refl
bytes_over-same t u (Cat' mark depth len p left q right count) h s f =
    rw (bytes_over-same t u left h s.0 f.0, bytes_over-same t u right h s.1 f.1) refl
