-- Texts that are cut into pieces.
use Rattle.cord_lines.proofs.Common.{AreBlocksOf, AreFew, AreModest, AreNarrow, AreOfSomeText, Block, Bool, Counts, Indexed, IsEditOf}
use Rattle.cord_lines.proofs.Common.{IsMark, IsModest, List, MAX_LEN, [], after_ends, ap, append-nil, append_assoc, arith, block_counts}
use Rattle.cord_lines.proofs.Common.{counts_of, drop, drop-append_seam, drop-drop, lacks_end, length, length-append, length-take, min, plus}
use Rattle.cord_lines.proofs.Common.{refl, subst, suc, sym, take, take-add, take-append-drop, take-append-le, take-append_seam, take-take}
use Rattle.cord_lines.proofs.Common.{take_all, total, without, zero, ℕ, ◌++◌, ◌+◌, ◌-◌, ◌<◌, ◌∙◌, ◌∷◌, ◌≡◌, ◌≤◌}
use Rattle.std.specs.Prelude.{map}
use Rattle.cord_lines.specs.Index.{AreCountsOf, IsIndexOf}
use Rattle.cord_lines.proofs.Ends.{past_all}
use Rattle.cord_lines.specs.inner.Cuts.{shown}
use Rattle.cord_lines.proofs.Countings.{alike, counts-append, ends-le, chars-le, two_left}
use Rattle.cord_lines.proofs.Sums.{first_within, min_prefix, modest_within, total-cons}

pub total_is : (bs : List Block) (x : List ℕ) → AreBlocksOf bs x → total bs ≡ counts_of x
total_is [] x c = ap counts_of (sym c)
total_is (b ∷ bs) x (piece, rest, text, here, more) =
    total-cons block_counts b bs ∙ ap (λ (a : Counts). plus a (total bs)) here ∙ ap (plus (counts_of piece)) (total_is bs rest more)
    ∙ sym (counts-append piece rest) ∙ ap counts_of (sym text)

-- the blocks of an index are cut from its text
pub cut_of : (bs : List Block) (x : List ℕ) → AreCountsOf (map block_counts bs) x → AreBlocksOf bs x
cut_of [] x none = none
cut_of (b ∷ bs) x (here, more) = (take b.bytes x, drop b.bytes x, sym (take-append-drop b.bytes x), here, cut_of bs (drop b.bytes x) more)

pub counted_of : (bs : List Block) (x : List ℕ) → AreBlocksOf bs x → AreCountsOf (map block_counts bs) x
counted_of [] x none = none
counted_of (b ∷ bs) x (piece, rest, text, here, more) =
    let len : b.bytes ≡ length piece = ap (λ (a : Counts). a.bytes) here in
    let first : take b.bytes x ≡ piece = ap (λ (n : ℕ). take n x) len ∙ ap (take (length piece)) text ∙ take-append_seam piece rest in
    let left : drop b.bytes x ≡ rest = ap (λ (n : ℕ). drop n x) len ∙ ap (drop (length piece)) text ∙ drop-append_seam piece rest in
    (here ∙ ap counts_of (sym first), subst (λ (y : List ℕ). AreCountsOf (map block_counts bs) y) (sym left) (counted_of bs rest more))

pub cut_from : (bs : List Block) {lacks : Bool} {mark : Counts} {i : Indexed} {x : List ℕ} → shown bs lacks mark ≡ i → IsIndexOf i x → AreBlocksOf bs x
cut_from bs {x} seen is = cut_of bs x (subst (λ (j : Indexed). AreCountsOf j.pieces x) (sym seen) is.counted)

pub marked_from : (bs : List Block) {lacks : Bool} {mark : Counts} {i : Indexed} {x : List ℕ} → shown bs lacks mark ≡ i → IsIndexOf i x → IsMark x mark
marked_from bs {x} seen is = subst (λ (j : Indexed). IsMark x j.mark) (sym seen) is.marked

pub index_from : (bs : List Block) (lacks : Bool) (mark : Counts) (x : List ℕ) → AreBlocksOf bs x → lacks ≡ lacks_end x → IsMark x mark →
    IsIndexOf (shown bs lacks mark) x
index_from bs lacks mark x c e m = record { counted = counted_of bs x c; end = e; marked = m }

-- the counts of some first bytes are those of as many as they say
pub own_mark : (x : List ℕ) (place : ℕ) (c : Counts) → c ≡ counts_of (take place x) → IsMark x c
own_mark x place c is =
    let same = alike is in
    is ∙ ap counts_of (sym (min_prefix x place c.bytes (omega (arith, length-take place x))))

-- a mark, and some bytes more
pub mark_more : (x : List ℕ) (mark : Counts) (place : ℕ) → IsMark x mark → mark.bytes ≤ place →
    plus mark (counts_of (take (place - mark.bytes) (drop mark.bytes x))) ≡ counts_of (take place x)
mark_more x mark place is le =
    let whole : place ≡ mark.bytes + (place - mark.bytes) = omega (arith, le) in
    let piece = take (place - mark.bytes) (drop mark.bytes x) in
    ap (λ (a : Counts). plus a (counts_of piece)) is ∙ sym (counts-append (take mark.bytes x) piece)
    ∙ ap counts_of (sym (ap (λ (n : ℕ). take n x) whole ∙ take-add mark.bytes (place - mark.bytes) x))

-- an edit leaves a mark before it
pub kept_mark : (before after : List ℕ) (start removed inserted : ℕ) (mark : Counts) → IsEditOf before after start removed inserted →
    IsMark before mark → mark.bytes ≤ start → IsMark after mark
kept_mark before after start removed inserted mark e is le =
    let prefix = take start before in
    let inside : mark.bytes ≤ length prefix = omega (arith, le, e.inside, length-take start before) in
    let further : mark.bytes ≤ length (prefix ++ e.fresh) = omega (arith, inside, length-append prefix e.fresh) in
    is ∙ ap counts_of (sym (ap (take mark.bytes) e.text ∙ take-append-le mark.bytes (prefix ++ e.fresh) (drop (start + removed) before) further
    ∙ take-append-le mark.bytes prefix e.fresh inside ∙ take-take mark.bytes start before le))

-- a text in two, between two blocks
pub record Split (i : ℕ) (bs : List Block) (x : List ℕ) : Type 0 where
  pub prefix : List ℕ
  pub back : List ℕ
  pub text : x ≡ prefix ++ back
  pub first : AreBlocksOf (take i bs) prefix
  pub second : AreBlocksOf (drop i bs) back

pub split : (i : ℕ) (bs : List Block) (x : List ℕ) → AreBlocksOf bs x → Split i bs x
split zero bs x c = record { prefix = []; back = x; text = refl; first = refl; second = c }
split (suc i) [] x c = record { prefix = []; back = x; text = refl; first = refl; second = c }
split (suc i) (b ∷ bs) x (piece, rest, text, here, more) =
    let s = split i bs rest more in
    record {
      prefix = piece ++ s.prefix;
      back = s.back;
      text = text ∙ ap (λ (y : List ℕ). piece ++ y) s.text ∙ sym (append_assoc piece s.prefix s.back);
      first = (piece, s.prefix, refl, here, s.first);
      second = s.second;
    }

pub joined : (cs bs : List Block) (x y : List ℕ) → AreBlocksOf cs x → AreBlocksOf bs y → AreBlocksOf (cs ++ bs) (x ++ y)
joined [] bs x y c d = subst (λ (z : List ℕ). AreBlocksOf bs z) (ap (λ (z : List ℕ). z ++ y) (sym c)) d
joined (a ∷ cs) bs x y (piece, rest, text, here, more) d =
    (piece, rest ++ y, ap (λ (z : List ℕ). z ++ y) text ∙ append_assoc piece rest y, here, joined cs bs rest y more d)

pub few_of : {c : Counts} → IsModest c → AreFew c
few_of modest = omega arith

pub modest : (bs : List Block) (x : List ℕ) → AreBlocksOf bs x → length x ≤ MAX_LEN → AreModest bs
modest bs x c le = let all = alike (total_is bs x c) in omega (arith, ends-le x, chars-le x)

pub modest_by : (bs : List Block) → AreOfSomeText bs → AreModest bs
modest_by bs some = modest bs some.text some.cut some.limit

pub few_by : (bs : List Block) → AreOfSomeText bs → AreFew (total bs)
few_by bs some = few_of (modest_by bs some)

pub one_piece_more : (bs : List Block) (b : Block) (x y z : List ℕ) → AreBlocksOf bs x → block_counts b ≡ counts_of y → z ≡ x ++ y → AreBlocksOf (bs ++ b ∷ []) z
one_piece_more bs b x y z c here text = subst (λ (w : List ℕ). AreBlocksOf (bs ++ b ∷ []) w) (sym text)
    (joined bs (b ∷ []) x y c (y, [], sym (append-nil y), here, refl))

-- a range in two
pub range_more : (x : List ℕ) (from place end : ℕ) → from ≤ place → place ≤ end →
    take (end - from) (drop from x) ≡ take (place - from) (drop from x) ++ take (end - place) (drop place x)
range_more x from place end le le2 =
    let whole : end - from ≡ (place - from) + (end - place) = omega (arith, le, le2) in
    let there : from + (place - from) ≡ place = omega (arith, le) in
    ap (λ (n : ℕ). take n (drop from x)) whole ∙ take-add (place - from) (end - place) (drop from x)
    ∙ ap (λ (y : List ℕ). take (place - from) (drop from x) ++ take (end - place) y) (drop-drop (place - from) from x ∙ ap (λ (n : ℕ). drop n x) there)

pub short : (n : ℕ) (x : List ℕ) → length (take n x) ≤ n
short n x = omega (arith, length-take n x)

-- a mark, and some bytes more, fit
pub few_marked : (mark : Counts) (n : ℕ) (x : List ℕ) → IsModest mark → n ≤ MAX_LEN → AreFew (plus mark (counts_of (take n x)))
few_marked mark n x m le = omega (arith, short n x, ends-le (take n x), chars-le (take n x))

pub narrow : (x : List ℕ) → length x < 65536 → AreNarrow (counts_of x)
narrow x lt = omega (arith, ends-le x, chars-le x)

-- all of a text is cut
abbrev pub all_cut : (bs : List Block) (x : List ℕ) (n : ℕ) → n ≡ length x → length x ≤ MAX_LEN → AreBlocksOf bs (take (n - 0) (drop 0 x)) → AreOfSomeText bs
all_cut bs x n e le c = record {
  text = x;
  cut = subst (λ (y : List ℕ). AreBlocksOf bs y) (take_all (n - 0) (drop 0 x) (omega (arith, e))) c;
  limit = le;
}

pub modest_before : (bs : List Block) (i : ℕ) → AreModest bs → IsModest (total (take i bs))
modest_before bs i m = modest_within (first_within block_counts bs i) m

-- what is before a block is a mark
pub mark_at : (bs : List Block) (x : List ℕ) → AreBlocksOf bs x → (i : ℕ) (mark : Counts) → mark ≡ total (take i bs) → IsMark x mark
mark_at bs x c i mark e =
    let s = split i bs x c in
    own_mark x (length s.prefix) mark (e ∙ total_is (take i bs) s.prefix s.first
    ∙ ap counts_of (sym (ap (take (length s.prefix)) s.text ∙ take-append_seam s.prefix s.back)))

-- what is before a place, counted back from a place after it
pub counts_back : (x : List ℕ) (end : Counts) (place count : ℕ) → IsMark x end → place + count ≤ end.bytes →
    without (without end (counts_of (take count (drop place x)))) (counts_of (take (end.bytes - (place + count)) (drop (place + count) x)))
    ≡ counts_of (take place x)
counts_back x end place count is le =
    let whole : end.bytes ≡ place + count + (end.bytes - (place + count)) = omega (arith, le) in
    let next = counts_of (take count (drop place x)) in
    let piece = take (end.bytes - (place + count)) (drop (place + count) x) in
    let first : counts_of (take (place + count) x) ≡ plus (counts_of (take place x)) next =
    ap counts_of (take-add place count x) ∙ counts-append (take place x) (take count (drop place x)) in
    let all : end ≡ plus (plus (counts_of (take place x)) next) (counts_of piece) =
    is ∙ ap counts_of (ap (λ (n : ℕ). take n x) whole ∙ take-add (place + count) (end.bytes - (place + count)) x)
    ∙ counts-append (take (place + count) x) piece ∙ ap (λ (a : Counts). plus a (counts_of piece)) first in
    ap (λ (a : Counts). without (without a next) (counts_of piece)) all ∙ two_left (counts_of (take place x)) next (counts_of piece)

-- a search that goes on where some ends are passed
pub past_counts : (x : List ℕ) (c : Counts) (from n : ℕ) → IsMark x c → from ≡ min c.bytes (length x) → c.ends < n →
    from + after_ends (n - c.ends) (drop from x) ≡ after_ends n x
past_counts x c from n is e lt =
    let same = alike is in
    let here : from ≡ c.bytes = omega (arith, length-take c.bytes x) in
    ap (λ (k : ℕ). k + after_ends (n - c.ends) (drop k x)) here
    ∙ ap (λ (k : ℕ). k + after_ends (n - c.ends) (drop c.bytes x)) same.bytes
    ∙ ap (λ (k : ℕ). length (take c.bytes x) + after_ends (n - k) (drop c.bytes x)) same.ends
    ∙ sym (past_all n (take c.bytes x) (drop c.bytes x) (omega arith))
    ∙ ap (after_ends n) (take-append-drop c.bytes x)
