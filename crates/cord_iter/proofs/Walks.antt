-- Walks over one list after another.
use Rattle.cord_iter.proofs.Common.{Bool, List, WalkedPrefix, [], ap, append_assoc, arith, drop, false, get_or, length, refl, replicate}
use Rattle.cord_iter.proofs.Common.{replicate-append-replicate, sym, take, take-add, take-append-drop, take-replicate, take_more, true, walk, ℕ, ◌++◌}
use Rattle.cord_iter.proofs.Common.{◌+◌, ◌-◌, ◌<◌, ◌∙◌, ◌∷◌, ◌≡◌, ◌≤◌}
use Rattle.std.proofs.lemmas.List.{drop-drop, drop-take}
use Rattle.std.specs.Prelude.{if◌then◌else◌}

-- from where a walk ended, on over more bytes unless it stopped
go_on : {S : Type 0} → (S → ℕ → S × Bool) → S × Bool → List ℕ → S × Bool
go_on step p y = if p.1 then (p.0, true) else walk step p.0 y

go_if : {S : Type 0} (step : S → ℕ → S × Bool) (c : Bool) (s : S) (w v : S × Bool) (y : List ℕ) → w ≡ go_on step v y →
    (if c then (s, true) else w) ≡ go_on step (if c then (s, true) else v) y
unfolding go_on
go_if step true s w v y h = refl
go_if step false s w v y h = h

walk-append : {S : Type 0} (step : S → ℕ → S × Bool) (a : S) (x y : List ℕ) → walk step a (x ++ y) ≡ go_on step (walk step a x) y
unfolding go_on
walk-append step a [] y = refl
walk-append step a (b ∷ bs) y = go_if step ((step a b).1) ((step a b).0) (walk step ((step a b).0) (bs ++ y))
    (walk step ((step a b).0) bs) y (walk-append step ((step a b).0) bs y)

-- over two lists, the first one without a stop
pub walk_on : {S : Type 0} (step : S → ℕ → S × Bool) (a b : S) (p : S × Bool) (x y : List ℕ) → walk step a x ≡ (b, false) →
    walk step b y ≡ p → walk step a (x ++ y) ≡ p
unfolding go_on
walk_on {S} step a b p x y h k = walk-append step a x y ∙ ap (λ (q : S × Bool). go_on step q y) h ∙ k

-- a stop in the first of two lists
pub walk_stop : {S : Type 0} (step : S → ℕ → S × Bool) (a b : S) (x y : List ℕ) → walk step a x ≡ (b, true) →
    walk step a (x ++ y) ≡ (b, true)
unfolding go_on
walk_stop {S} step a b x y h = walk-append step a x y ∙ ap (λ (q : S × Bool). go_on step q y) h

-- over one byte
pub walk_one : {S : Type 0} (step : S → ℕ → S × Bool) (a d : S) (stop : Bool) (b : ℕ) → (d, stop) ≡ step a b →
    walk step a (b ∷ []) ≡ (d, stop)
walk_one step a d true b e = rw (← e) refl
walk_one step a d false b e = rw (← e) refl

-- over the bytes before a place, and the one there
pub walk_next : {S : Type 0} (step : S → ℕ → S × Bool) (a b d : S) (stop : Bool) (xs : List ℕ) (i : ℕ) → i < length xs →
    walk step a (take i xs) ≡ (b, false) → (d, stop) ≡ step b (get_or xs i 0) → walk step a (take (i + 1) xs) ≡ (d, stop)
walk_next {S} step a b d stop xs i inside h k = ap (λ (l : List ℕ). walk step a l) (take_more xs i 0 inside)
    ∙ walk_on step a b (d, stop) (take i xs) (get_or xs i 0 ∷ []) h (walk_one step b d stop (get_or xs i 0) k)

-- a stop among the first bytes
pub walk_stop_in : {S : Type 0} (step : S → ℕ → S × Bool) (a d : S) (xs : List ℕ) (i : ℕ) → walk step a (take i xs) ≡ (d, true) →
    walk step a xs ≡ (d, true)
walk_stop_in {S} step a d xs i h = ap (λ (l : List ℕ). walk step a l) (sym (take-append-drop i xs))
    ∙ walk_stop step a d (take i xs) (drop i xs) h

-- a prefix of the first of two lists
pub prefix_first : {S : Type 0} (step : S → ℕ → S × Bool) (a b : S) (whole x y : List ℕ) → whole ≡ x ++ y → WalkedPrefix step a b x →
    WalkedPrefix step a b whole
prefix_first step a b whole x y e h = record {
  prefix = h.prefix;
  rest = h.rest ++ y;
  split = e ∙ ap (λ (l : List ℕ). l ++ y) h.split ∙ append_assoc h.prefix h.rest y;
  walked = h.walked;
}

-- the first list, and a prefix of the second one
pub prefix_second : {S : Type 0} (step : S → ℕ → S × Bool) (a b c : S) (whole x y : List ℕ) → whole ≡ x ++ y → walk step a x ≡ (b, false) →
    WalkedPrefix step b c y → WalkedPrefix step a c whole
prefix_second step a b c whole x y e h k = record {
  prefix = x ++ k.prefix;
  rest = k.rest;
  split = e ∙ ap (λ (l : List ℕ). x ++ l) k.split ∙ sym (append_assoc x k.prefix k.rest);
  walked = walk_on step a b (c, false) x k.prefix h k.walked;
}

-- a run: some of it, and the rest
pub run_split : (byte len k : ℕ) → k ≤ len → replicate len byte ≡ replicate k byte ++ replicate (len - k) byte
run_split byte len k h =
    let e : k + (len - k) ≡ len = omega arith in
    sym (replicate-append-replicate k (len - k) byte ∙ ap (λ (n : ℕ). replicate n byte) e)

-- some of it, and a piece
pub run_on : {S : Type 0} (step : S → ℕ → S × Bool) (a b : S) (p : S × Bool) (byte done count n : ℕ) → count ≤ n →
    walk step a (replicate done byte) ≡ (b, false) → walk step b (take count (replicate n byte)) ≡ p →
    walk step a (replicate (done + count) byte) ≡ p
run_on step a b p byte done count n piece h k = ap (λ (l : List ℕ). walk step a l) (sym (replicate-append-replicate done count byte))
    ∙ walk_on step a b p (replicate done byte) (replicate count byte) h (rw (take-replicate count n byte piece) at k)

-- a stop in the piece
pub run_stop : {S : Type 0} (step : S → ℕ → S × Bool) (a b c : S) (byte len done count n : ℕ) → done + count ≤ len → count ≤ n →
    walk step a (replicate done byte) ≡ (b, false) → walk step b (take count (replicate n byte)) ≡ (c, true) →
    walk step a (replicate len byte) ≡ (c, true)
run_stop step a b c byte len done count n inside piece h k =
    ap (λ (l : List ℕ). walk step a l) (run_split byte len (done + count) inside)
    ∙ walk_stop step a c (replicate (done + count) byte) (replicate (len - (done + count)) byte)
    (run_on step a b (c, true) byte done count n piece h k)

-- a range: some of it, and a piece
pub range_next : (xs : List ℕ) (s a b : ℕ) → take (a + b) (drop s xs) ≡ take a (drop s xs) ++ take b (drop (s + a) xs)
range_next xs s a b = take-add a b (drop s xs) ∙ ap (λ (l : List ℕ). take a (drop s xs) ++ take b l) (drop-drop a s xs)

-- the same, and the rest
pub range_split : (xs : List ℕ) (s a n : ℕ) → a ≤ n → take n (drop s xs) ≡ take a (drop s xs) ++ take (n - a) (drop (s + a) xs)
range_split xs s a n h =
    let e : n ≡ a + (n - a) = omega arith in
    ap (λ (k : ℕ). take k (drop s xs)) e ∙ range_next xs s a (n - a)

-- what is after a place in a range
pub range_rest : (xs : List ℕ) (s len from : ℕ) → from ≤ len → take (len - from) (drop (s + from) xs) ≡ drop from (take len (drop s xs))
range_rest xs s len from h =
    let e : len ≡ from + (len - from) = omega arith in
    sym (ap (λ (k : ℕ). drop from (take k (drop s xs))) e ∙ drop-take from (len - from) (drop s xs)
    ∙ ap (λ (l : List ℕ). take (len - from) l) (drop-drop from s xs))

-- a walk over a text in another spelling
pub same_walk : {S : Type 0} (step : S → ℕ → S × Bool) (a : S) (p : S × Bool) (x y : List ℕ) → x ≡ y → walk step a x ≡ p → walk step a y ≡ p
same_walk step a p x y e h = rw (← e) h
