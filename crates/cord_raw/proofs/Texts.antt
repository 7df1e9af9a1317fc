-- Lengths and ranges of the texts of blocks.
use Rattle.std.proofs.Common.{◌≡◌, ℕ, zero, suc, ◌+◌, ◌-◌, ◌*◌, ◌≤◌, ◌<◌, List, [], ◌∷◌, ◌++◌, length, take, drop, get_or, slice_range}
use Rattle.std.proofs.Common.{refl, sym, ap, ◌∙◌, subst, arith, length-append, append_assoc, append-nil}
use Rattle.std.proofs.lemmas.List.{length-drop, take-append-le, drop-append-le, drop_at}
use Rattle.std.proofs.Math.Seq.{take-add, drop-append-add}
use Rattle.cord_raw.specs.declared.block.TheConstants.{ROOM}
use Rattle.cord_raw.specs.declared.block.Block.{Block}
use Rattle.cord_raw.specs.declared.chain.Chain.{Chain}
use Rattle.cord_raw.specs.inner.Places.{block_at}
use Rattle.cord_raw.specs.Texts.{text_of, text, AreFull, chain_text, IsFilled}
use Rattle.cord_raw.specs.inner.Texts.{blocks_of}

pub text_append : (xs ys : List Block) → text (xs ++ ys) ≡ text xs ++ text ys
text_append [] ys = refl
text_append (x ∷ xs) ys = ap (λ t. text_of x ++ t) (text_append xs ys) ∙ sym (append_assoc (text_of x) (text xs) (text ys))

pub full_append : (xs ys : List Block) → AreFull xs → AreFull ys → AreFull (xs ++ ys)
full_append [] ys some more = more
full_append (x ∷ xs) ys some more = (some.0, full_append xs ys some.1 more)

pub text_length : (xs : List Block) → AreFull xs → length (text xs) ≡ ROOM * length xs
text_length [] full = refl
text_length (x ∷ xs) full = omega (arith, length-append (text_of x) (text xs), full.0, text_length xs full.1)

-- the text of two chains of which the first one's newest block was linked to the second
pub linked_text : (xs : List Block) (x x' : Block) (ys : List Block) (y : Block) → text_of x' ≡ text_of x →
    text (xs ++ x' ∷ ys) ++ text_of y ≡ (text xs ++ text_of x) ++ (text ys ++ text_of y)
linked_text xs x x' ys y same =
    ap (λ t. t ++ text_of y) (text_append xs (x' ∷ ys) ∙ ap (λ t. text xs ++ (t ++ text ys)) same
    ∙ sym (append_assoc (text xs) (text_of x) (text ys))) ∙ append_assoc (text xs ++ text_of x) (text ys) (text_of y)

-- the text from the block at i on
text_from : (bs : List Block) (i : ℕ) (x : Block) → i < length bs → text (drop i bs) ≡ text_of (get_or bs i x) ++ text (drop (suc i) bs)
text_from [] i x inside = absurd (omega arith)
text_from (b ∷ bs) zero x inside = refl
text_from (b ∷ bs) (suc i) x inside = text_from bs i x (omega arith)

-- more than a block's bytes go on after the block at i, which is full then
goes_on : (xs : List Block) (y : Block) (i k : ℕ) → length (text_of y) ≤ ROOM → i ≤ length xs → ROOM < k →
    k ≤ length (text (drop i (xs ++ y ∷ []))) → i < length xs
goes_on [] y zero k small inside much there = absurd (let alone = length-append (text_of y) [] in omega arith)
goes_on [] y (suc i) k small inside much there = absurd (omega arith)
goes_on (x ∷ xs) y zero k small inside much there = omega arith
goes_on (x ∷ xs) y (suc i) k small inside much there = let on = goes_on xs y i k small (omega arith) much there in omega arith

full_at : (xs : List Block) (y : Block) (i : ℕ) (z : Block) → AreFull xs → i < length xs →
    length (text_of (get_or (xs ++ y ∷ []) i z)) ≡ ROOM
full_at [] y i z full inside = absurd (omega arith)
full_at (x ∷ xs) y zero z full inside = full.0
full_at (x ∷ xs) y (suc i) z full inside = full_at xs y i z full.1 (omega arith)

-- bytes that a block has room for, and that stand from the block at i on, stand in it
stands_in : (xs : List Block) (y : Block) (i k : ℕ) (z : Block) → AreFull xs → i ≤ length xs → k ≤ ROOM →
    k ≤ length (text (drop i (xs ++ y ∷ []))) → k ≤ length (text_of (get_or (xs ++ y ∷ []) i z))
stands_in [] y zero k z full inside small there = let alone = length-append (text_of y) [] in omega arith
stands_in [] y (suc i) k z full inside small there = absurd (omega arith)
stands_in (x ∷ xs) y zero k z full inside small there = let all = full.0 in omega arith
stands_in (x ∷ xs) y (suc i) k z full inside small there = stands_in xs y i k z full.1 (omega arith) small there

-- a range of n bytes, by its start alone
pub range_is : (xs : List ℕ) (start n : ℕ) → slice_range xs start (start + n) ≡ take n (drop start xs)
range_is xs start n = ap (λ k. take k (drop start xs)) (omega arith)

-- a range that begins after the first text
range_after : (xs ys : List ℕ) (start i n : ℕ) → start ≡ length xs + i →
    slice_range ys i (i + n) ≡ slice_range (xs ++ ys) start (start + n)
range_after xs ys start i n at = range_is ys i n ∙ sym (range_is (xs ++ ys) start n ∙ ap (λ k. take n (drop k (xs ++ ys))) at
    ∙ ap (take n) (drop-append-add xs ys i))

-- the first bytes of the second text
rest_after : (xs ys : List ℕ) (start below rest : ℕ) → start + below ≤ length xs → (0 < rest → start + below ≡ length xs) →
    take rest (drop below (drop start xs ++ ys)) ≡ take rest ys
rest_after xs ys start below zero inside tight = refl
rest_after xs ys start below (suc r) inside tight =
    let at_seam : length (drop start xs) ≡ below = length-drop start xs ∙ omega (arith, tight (omega arith)) in
    ap (take (suc r)) (drop_at (drop start xs) ys below at_seam)

-- a range that begins in the first text, of which rest bytes are in the second
range_over_seam : (xs ys : List ℕ) (start below rest : ℕ) → start + below ≤ length xs → (0 < rest → start + below ≡ length xs)
    → slice_range xs start (start + below) ++ slice_range ys 0 (0 + rest) ≡ slice_range (xs ++ ys) start (start + (below + rest))
range_over_seam xs ys start below rest inside tight =
    let from_start : drop start (xs ++ ys) ≡ drop start xs ++ ys = drop-append-le start xs ys (omega (arith, inside)) in
    let some_left : below ≤ length (drop start xs) = subst (λ n. below ≤ n) (sym (length-drop start xs)) (omega (arith, inside)) in
    sym (range_is (xs ++ ys) start (below + rest) ∙ ap (take (below + rest)) from_start ∙ take-add below rest (drop start xs ++ ys)
    ∙ ap (λ prefix. prefix ++ take rest (drop below (drop start xs ++ ys))) (take-append-le below (drop start xs) ys some_left)
    ∙ ap (λ back. take below (drop start xs) ++ back) (rest_after xs ys start below rest inside tight)
    ∙ ap (λ prefix. prefix ++ take rest ys) (sym (range_is xs start below)) ∙ ap (λ back. slice_range xs start (start + below) ++ back)
    (sym (range_is ys 0 rest)))

-- the text from the block at i on is that block's, and then the text from the next one on
from_next : (c : Chain) (i j : ℕ) → i ≤ length c.older → j ≡ i + 1 → text (drop i (blocks_of c)) ≡ text_of (block_at c i)
    ++ text (drop j (blocks_of c))
from_next c i j within next =
    let inside : i < length (blocks_of c) = omega (arith, length-append c.older (c.newest ∷ [])) in let onward : suc i ≡ j = omega arith in
    text_from (blocks_of c) i c.newest inside ∙ ap (λ k. text_of (block_at c i) ++ text (drop k (blocks_of c))) onward

-- where more than a block's bytes stand from the block at i on, it is full, and others are after it
goes_after : (c : Chain) (i k : ℕ) → IsFilled c → i ≤ length c.older → ROOM < k → k ≤ length (text (drop i (blocks_of c))) →
    (i < length c.older) × (length (text_of (block_at c i)) ≡ ROOM)
goes_after c i k filled within much there =
    let more = goes_on c.older c.newest i k (omega (arith, filled.1, filled.2)) within much there in
    (more, full_at c.older c.newest i c.newest filled.0 more)

-- and all but a block's bytes stand in those
pub left_after : (c : Chain) (i j k : ℕ) → IsFilled c → i ≤ length c.older → j ≡ i + 1 → ROOM < k →
    k ≤ length (text (drop i (blocks_of c))) → k ≤ ROOM + length (text (drop j (blocks_of c)))
left_after c i j k filled within next much there =
    omega (
      arith,
      ap length (from_next c i j within next),
      length-append (text_of (block_at c i)) (text (drop j (blocks_of c))),
      (goes_after c i k filled within much there).1,
      there,
    )

-- nothing of a range that begins after the block at i stands in it
pub after_block : (c : Chain) (i j start n : ℕ) → IsFilled c → i ≤ length c.older → j ≡ i + 1 → ROOM ≤ start → 0 < n →
    start + n ≤ length (text (drop i (blocks_of c)))
    → slice_range (text (drop j (blocks_of c))) (start - ROOM) (start - ROOM + n) ≡ slice_range (text (drop i (blocks_of c))) start
    (start + n)
after_block c i j start n filled within next over some there =
    let full = (goes_after c i (start + n) filled within (omega arith) there).1 in
    range_after (text_of (block_at c i)) (text (drop j (blocks_of c))) start (start - ROOM) n (omega arith)
    ∙ ap (λ xs. slice_range xs start (start + n)) (sym (from_next c i j within next))

-- the block at i has the first bytes of a range that begins in it
pub holds_run : (c : Chain) (i k : ℕ) → IsFilled c → i ≤ length c.older → k ≤ ROOM → k ≤ length (text (drop i (blocks_of c))) →
    k ≤ length (text_of (block_at c i))
holds_run c i k filled within fits there = stands_in c.older c.newest i k c.newest filled.0 within fits there

-- a range that begins in the block at i, of which rest bytes stand after it
pub from_block : (c : Chain) (i j start run rest : ℕ) → IsFilled c → i ≤ length c.older → j ≡ i + 1 → start + run ≤ ROOM →
    (0 < rest → start + run ≡ ROOM) → start + (run + rest) ≤ length (text (drop i (blocks_of c)))
    → slice_range (text_of (block_at c i)) start (start + run) ++ slice_range (text (drop j (blocks_of c))) 0 (0 + rest)
    ≡ slice_range (text (drop i (blocks_of c))) start (start + (run + rest))
from_block c i j start run rest filled within next fits tight there =
    let holds = holds_run c i (start + run) filled within fits (omega (arith, there)) in
    let full : 0 < rest → length (text_of (block_at c i)) ≡ ROOM =
    λ some. (goes_after c i (start + (run + rest)) filled within (omega (arith, tight some, some)) there).1 in
    range_over_seam (text_of (block_at c i)) (text (drop j (blocks_of c))) start run rest holds (λ some. tight some ∙ sym (full some))
    ∙ ap (λ xs. slice_range xs start (start + (run + rest))) (sym (from_next c i j within next))

-- the text of all blocks is the chain's
pub text_blocks : (c : Chain) → text (blocks_of c) ≡ chain_text c
text_blocks c = text_append c.older (c.newest ∷ []) ∙ ap (λ t. text c.older ++ t) (append-nil (text_of c.newest))
