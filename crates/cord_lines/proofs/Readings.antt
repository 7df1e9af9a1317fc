-- What a text has from a place on, chunk by chunk.
use Rattle.cord_lines.proofs.Common.{Chunk, Counts, IsAhead, IsCounted, List, after_ends, ap, append_assoc, arith, chunk_bytes, counts_of}
use Rattle.cord_lines.proofs.Common.{drop, drop-append_seam, drop-drop, ends_in, length, length-append, plus, subst, sym, take, take-add}
use Rattle.cord_lines.proofs.Common.{take-append-drop, take-append_seam, ℕ, ◌++◌, ◌+◌, ◌-◌, ◌<◌, ◌∙◌, ◌≡◌, ◌≤◌}
use Rattle.cord_lines.specs.inner.Reading.{IsAround, IsCut, IsInTwo, IsSearch}
use Rattle.cord_lines.specs.declared.around.Around.{Around}
use Rattle.cord_lines.specs.declared.reading.Cut.{Cut}
use Rattle.cord_lines.specs.declared.reading.Search.TheVariants.{Found, Missing}
use Rattle.cord_lines.proofs.Countings.{after-le, counts-append}
use Rattle.cord_lines.proofs.Ends.{in_first, past_all}

-- some bytes that go on
ahead_of : (all back rest : List ℕ) → all ≡ back ++ rest → all ≡ back ++ drop (length back) all
ahead_of all back rest e = e ∙ ap (λ (y : List ℕ). back ++ y) (sym (ap (drop (length back)) e ∙ drop-append_seam back rest))

-- a chunk in two, with which some bytes begin
pub cut_is : {all : List ℕ} {most : ℕ} {chunk : Chunk} {cut : Cut} → IsAhead all chunk → IsInTwo chunk most cut → IsCut all most cut
cut_is {all} {chunk} {cut} ahead two =
    let a = chunk_bytes cut.prefix in
    let b = chunk_bytes cut.back in
    let rest = drop (length (chunk_bytes chunk)) all in
    let whole : all ≡ a ++ (b ++ rest) = ahead ∙ ap (λ (y : List ℕ). y ++ rest) two.parts ∙ append_assoc a b rest in
    record {
      some = two.some;
      few = two.few;
      prefix = ahead_of all a (b ++ rest) whole;
      back = ahead_of (drop (length a) all) b rest (ap (drop (length a)) whole ∙ drop-append_seam a (b ++ rest));
    }

-- the next bytes are behind them
pub next_left : (x : List ℕ) (place n m : ℕ) → m ≡ place + n → drop n (drop place x) ≡ drop m x
next_left x place n m e = drop-drop n place x ∙ ap (λ (k : ℕ). drop k x) (sym e)

-- a chunk more is counted
pub counted_on : {x : List ℕ} {from least most few : ℕ} {have : Counts} {ahead : Chunk} {cut : Cut} → IsCounted x from least most have ahead →
    IsCut (drop (from + have.bytes) x) few cut →
    plus have (counts_of (chunk_bytes cut.prefix)) ≡ counts_of (take (have.bytes + length (chunk_bytes cut.prefix)) (drop from x))
counted_on {x} {from} {have = have} {cut = cut} is next =
    let rest = drop from x in
    let chunk = chunk_bytes cut.prefix in
    let n = length chunk in
    let piece : take n (drop have.bytes rest) ≡ chunk =
    ap (take n) (drop-drop have.bytes from x ∙ next.prefix) ∙ take-append_seam chunk (drop n (drop (from + have.bytes) x)) in
    ap (λ (a : Counts). plus a (counts_of chunk)) is.counts ∙ sym (counts-append (take have.bytes rest) chunk)
    ∙ ap counts_of (sym (take-add have.bytes n rest ∙ ap (λ (y : List ℕ). take have.bytes rest ++ y) piece))

-- so many bytes are counted, no fewer and no more
module _ {x : List ℕ} {place n : ℕ} {c : Counts} {ahead : Chunk} (is : IsCounted x place n n c ahead) where
  len-is : c.bytes ≡ n
  len-is = omega (arith, is.enough, is.few)

  pub exact_counts : c ≡ counts_of (take n (drop place x))
  exact_counts = is.counts ∙ ap (λ (k : ℕ). counts_of (take k (drop place x))) len-is

  pub ahead_after : (end : ℕ) → place + n ≡ end → IsAhead (drop end x) ahead
  ahead_after end e = subst (λ (k : ℕ). IsAhead (drop k x) ahead) (ap (λ (k : ℕ). place + k) len-is ∙ e) is.held

-- what is around a place is known where more is
pub around_where : {known more : Type 0} {x : List ℕ} {place count : ℕ} {around : Around} → IsAround known x place count around → (more → known) →
    IsAround more x place count around
around_where is f = record { before = λ m. is.before (f m); next = is.next }

module _ (x : List ℕ) (n p : ℕ) where
  pub found_in : n ≤ ends_in x → p ≡ after_ends n x → IsSearch x n (Found p)
  found_in le e = (omega (arith, e, after-le n x), λ y. in_first n x y le ∙ sym e)

  pub missing_in : ends_in x < n → p ≡ n - ends_in x → IsSearch x n (Missing p)
  missing_in lt e = λ y. past_all n x y lt ∙ ap (λ (k : ℕ). length x + after_ends k y) (sym e)

-- the way to the end of a line led to the rest, where so many ends are left, whatever follows
pub record LeadsTo (all : List ℕ) (n : ℕ) (rest : List ℕ) (left : ℕ) : Type 0 where
  pub way : (y : List ℕ) → after_ends n (all ++ y) ≡ (length all - length rest) + after_ends left (rest ++ y)
  pub inside : length rest ≤ length all

-- of which a piece is next
module _ {all : List ℕ} {n : ℕ} {rest : List ℕ} {left : ℕ} {piece back : List ℕ} (m : ℕ) (there : LeadsTo all n rest left)
    (piece-is : piece ≡ take m rest) (back-is : back ≡ drop m rest) where
  split : rest ≡ piece ++ back
  split = rw (piece-is, back-is) (sym (take-append-drop m rest))

  cut : (y : List ℕ) → after_ends left (rest ++ y) ≡ after_ends left (piece ++ (back ++ y))
  cut y = ap (λ (z : List ℕ). after_ends left (z ++ y)) split ∙ ap (after_ends left) (append_assoc piece back y)

  len : length rest ≡ length piece + length back
  len = ap (λ (z : List ℕ). length z) split ∙ length-append piece back

  pub found_piece : (p : ℕ) → left ≤ ends_in piece → p ≡ (length all - length rest) + after_ends left piece → IsSearch all n (Found p)
  found_piece p le e = (
    omega (arith, e, after-le left piece, len, there.inside),
    λ y. there.way y ∙ ap (λ (k : ℕ). (length all - length rest) + k) (cut y ∙ in_first left piece (back ++ y) le) ∙ sym e,
  )

  pub missing_piece : (more : ℕ) → ends_in piece < left → more ≡ left - ends_in piece → LeadsTo all n back more
  missing_piece more lt e = record {
    way = λ y. there.way y ∙ ap (λ (k : ℕ). (length all - length rest) + k) (cut y ∙ past_all left piece (back ++ y) lt
        ∙ ap (λ (k : ℕ). length piece + after_ends k (back ++ y)) (sym e)) ∙ omega (arith, len, there.inside);
    inside = omega (arith, len, there.inside);
  }
