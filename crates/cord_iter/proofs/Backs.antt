-- Walks from a place down, by positions.
use Rattle.cord_iter.proofs.Common.{Bool, HasLengths, IsByteAt, Lengths, List, Node, Some, Table, WalkedPrefix, [], ap, arith, bytes_of, drop, false}
use Rattle.cord_iter.proofs.Common.{get_or, length, length-bytes, length-take-le, places_up_to, prev_index, reverse, sym, take, take-append-drop}
use Rattle.cord_iter.proofs.Common.{take_more, text_len, walk, ℕ, ◌++◌, ◌+◌, ◌-◌, ◌<◌, ◌∙◌, ◌∷◌, ◌≡◌, ◌≤◌}
use Rattle.std.proofs.Common.{None, suc, zero}
use Rattle.std.proofs.lemmas.List.{get_or-reverse, get_or-take, length-reverse, nil_from_length, take_all}
use Rattle.std.proofs.lemmas.Option.{unwrap_or-slice_get}
use Rattle.std.specs.Prelude.{Option, slice_get, unwrap_or}
use Rattle.cord_core.proofs.OverLemmas.{CordFits-reported}
use Rattle.cord_core.specs.Cord.{CordFitsIn, IsCord}
use Rattle.cord_iter.proofs.Walks.{walk_on, walk_one}

-- a cord that fits has as long a text as it stores
pub cord_len : (ls : Lengths) (t : Table) (c : Option Node) → HasLengths ls t → IsCord c → CordFitsIn ls c →
    length (bytes_of t c) ≡ text_len c
cord_len ls t c reported s f = sym (length-bytes t c s (CordFits-reported ls t c reported f))

-- the bytes from the place `i` down
abbrev pub downward : List ℕ → ℕ → List ℕ
downward xs i = reverse (take (i + 1) xs)

-- the byte at a place is the next one after those above it
next_down : (xs : List ℕ) (i j b : ℕ) → i < length xs → j ≤ i → slice_get xs j ≡ Some b →
    take ((i - j) + 1) (downward xs i) ≡ take (i - j) (downward xs i) ++ b ∷ []
next_down xs i j b inside below e =
    let m : i + 1 ≤ length xs = omega arith in
    let l : length (take (i + 1) xs) ≡ i + 1 = length-take-le (i + 1) xs m in
    let r : length (downward xs i) ≡ i + 1 = length-reverse (take (i + 1) xs) ∙ l in
    let k : length (take (i + 1) xs) - 1 - (i - j) ≡ j = omega arith in
    let a : i - j < length (downward xs i) = omega arith in
    let d : i - j < length (take (i + 1) xs) = omega arith in
    let u : j < i + 1 = omega arith in
    let byte : get_or (downward xs i) (i - j) 0 ≡ b =
    get_or-reverse (take (i + 1) xs) (i - j) 0 d ∙ ap (λ (n : ℕ). get_or (take (i + 1) xs) n 0) k ∙ get_or-take (i + 1) xs j 0 u
    ∙ sym (unwrap_or-slice_get xs j 0) ∙ ap (λ (x : Option ℕ). unwrap_or x 0) e in
    take_more (downward xs i) (i - j) 0 a ∙ ap (λ (x : ℕ). take (i - j) (downward xs i) ++ x ∷ []) byte

-- the same at a position
next_at : (t : Table) (c : Option Node) (i : ℕ) (index : Option ℕ) (b : ℕ) → i < length (bytes_of t c) → places_up_to index ≤ i + 1 →
    IsByteAt t c index b → take (i + 1 - places_up_to (prev_index index)) (downward (bytes_of t c) i)
    ≡ take (i + 1 - places_up_to index) (downward (bytes_of t c) i) ++ b ∷ []
next_at t c i None b inside below e = absurd e
next_at t c i (Some zero) b inside below e =
    let m : i + 1 - 0 ≡ (i - 0) + 1 = omega arith in
    let n : i + 1 - (0 + 1) ≡ i - 0 = omega arith in
    rw (m, n) (next_down (bytes_of t c) i 0 b inside (omega arith) e)
next_at t c i (Some (suc j)) b inside below e =
    let h : suc j ≤ i = omega arith in
    let m : i + 1 - (j + 1) ≡ (i - suc j) + 1 = omega arith in
    let n : i + 1 - (suc j + 1) ≡ i - suc j = omega arith in
    rw (m, n) (next_down (bytes_of t c) i (suc j) b inside h e)

-- one byte further down
pub back_next : {S : Type 0} (step : S → ℕ → S × Bool) (s a d : S) (stop : Bool) (t : Table) (c : Option Node) (i : ℕ) (index : Option ℕ)
    (b : ℕ) → length (bytes_of t c) ≡ text_len c → i < text_len c → places_up_to index ≤ i + 1 → IsByteAt t c index b →
    (d, stop) ≡ step a b → walk step s (take (i + 1 - places_up_to index) (downward (bytes_of t c) i)) ≡ (a, false) →
    walk step s (take (i + 1 - places_up_to (prev_index index)) (downward (bytes_of t c) i)) ≡ (d, stop)
back_next step s a d stop t c i index b len inside below byte e h =
    let k : i < length (bytes_of t c) = rw len inside in
    ap (λ (l : List ℕ). walk step s l) (next_at t c i index b k below byte)
    ∙ walk_on step s a (d, stop) (take (i + 1 - places_up_to index) (downward (bytes_of t c) i)) (b ∷ []) h (walk_one step a d stop b e)

-- the next one could not be read
pub back_prefix : {S : Type 0} (step : S → ℕ → S × Bool) (s a : S) (t : Table) (c : Option Node) (i n : ℕ) →
    walk step s (take n (downward (bytes_of t c) i)) ≡ (a, false) → WalkedPrefix step s a (downward (bytes_of t c) i)
back_prefix step s a t c i n h = record {
  prefix = take n (downward (bytes_of t c) i);
  rest = drop n (downward (bytes_of t c) i);
  split = sym (take-append-drop n (downward (bytes_of t c) i));
  walked = h;
}

-- the place before is no further from the beginning
pub left_prev : (index : Option ℕ) (n : ℕ) → places_up_to index ≤ n → places_up_to (prev_index index) ≤ n
left_prev None n h = h
left_prev (Some zero) n h = omega arith
left_prev (Some (suc j)) n h = omega arith

-- a walk over the empty cord
pub empty_walk : {S : Type 0} (step : S → ℕ → S × Bool) (s : S) (t : Table) (c : Option Node) → length (bytes_of t c) ≡ text_len c →
    text_len c ≡ 0 → walk step s (reverse (bytes_of t c)) ≡ (s, false)
empty_walk step s t c len e = ap (λ (l : List ℕ). walk step s (reverse l)) (nil_from_length (bytes_of t c) (len ∙ e))

-- the bytes from the last place down
pub all_down : (t : Table) (c : Option Node) (n : ℕ) → length (bytes_of t c) ≡ text_len c → n ≡ text_len c → 0 < n →
    reverse (take (n - 1 + 1) (bytes_of t c)) ≡ reverse (bytes_of t c)
all_down t c n len e some = ap (λ (l : List ℕ). reverse l) (take_all (n - 1 + 1) (bytes_of t c) (omega (arith, len, e, some)))
