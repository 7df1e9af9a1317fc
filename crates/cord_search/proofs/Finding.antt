-- Places of a byte: those in a piece are those in the text.
use Rattle.cord_search.proofs.Common.{Bor, CordFitsIn, Ghosts, HasNot, IsAnswer, IsFirst, IsPartOf, IsPieceOf, IsReadable, IsReported, IsSpanOf}
use Rattle.cord_search.proofs.Common.{IsSpanUpTo, Lengths, List, Node, None, NoneBefore, Nowhere, Ok, Option, Shows, Some, Span, StandsAt, Table, []}
use Rattle.cord_search.proofs.Common.{ap, arith, bytes_of, cases_lt, drop, eq-eqb, eqb-true, first, first_is_least, get_or, get_or-drop, get_or-take}
use Rattle.cord_search.proofs.Common.{length, length-drop, length-take, refl, slice_get, span_bytes, span_len, subst, sym, take, text_len, ℕ, ⊎_elim}
use Rattle.cord_search.proofs.Common.{◌+◌, ◌-◌, ◌<◌, ◌∙◌, ◌∷◌, ◌≡◌, ◌≤◌}
use Rattle.std.proofs.lemmas.Option.{get_or_from_slice_get, same_Some, slice_get-get_or, slice_get_within}
use Rattle.cord_core.proofs.Places.{at_here, some_here}
use Rattle.cord_core.proofs.Searches.{last_is_greatest}
use Rattle.cord_core.specs.Texts.{IsLast, last}
use Rattle.memchr.specs.Find.{IsFirstByte, IsLastByte, NoneAfter, Passes, is_byte}
use Rattle.cord_search.proofs.Ranges.{end_piece, prefix_piece, span_piece}
use Rattle.cord_search.proofs.Reading.{answered, len_in, shown_on, shown_so}
use Rattle.cord_search.specs.inner.Searches.{FindsByte, FindsLast}
use Rattle.cord_search.specs.inner.Spans.{IsRunWithout, IsSomeOf}

-- what holds nowhere before a place and nowhere after it holds nowhere
pub nowhere_on : (P : ℕ → Type 0) (i j k : ℕ) → Nowhere P i j → Nowhere P j k → Nowhere P i k
nowhere_on P i j k before after = λ q low to there. ⊎_elim (λ (lt : q < j). before q low lt there) (λ (le : j ≤ q). after q le to there)
    (cases_lt q j)

-- of two places neither is before the other
one_place : (p q : ℕ) → (p < q → ⊥) → (q < p → ⊥) → Some p ≡ Some q
one_place p q low high = let same : p ≡ q = omega arith in ap (λ (n : ℕ). Some n) same

-- what is found is the least place
pub first_is : (x s : List ℕ) (i : ℕ) (r : Option ℕ) → r ≡ first x i s → IsFirst x i s r
first_is x s i r is = subst (λ (o : Option ℕ). IsFirst x i s o) (sym is) (first_is_least x s i)

-- there is one first place
same_first : (x s : List ℕ) (i : ℕ) (a b : Option ℕ) → IsFirst x i s a → IsFirst x i s b → a ≡ b
same_first x s i (Some p) (Some q) (a, at, la) (b, bt, lb) = one_place p q (λ lt. lb p a lt at) (λ lt. la q b lt bt)
same_first x s i (Some p) None (a, at, la) h = absurd (h p a at)
same_first x s i None (Some q) h (b, bt, lb) = absurd (h q b bt)
same_first x s i None None h k = refl

pub first_only : (x s : List ℕ) (i : ℕ) (a : Option ℕ) → IsFirst x i s a → a ≡ first x i s
first_only x s i a h = same_first x s i a (first x i s) h (first_is_least x s i)

-- and one last place
same_last : (x : List ℕ) (i c : ℕ) (a b : Option ℕ) → IsLast x i c a → IsLast x i c b → a ≡ b
same_last x i c (Some p) (Some q) (a, at, la) (b, bt, lb) = one_place p q (λ lt. la q lt b bt) (λ lt. lb p lt a at)
same_last x i c (Some p) None (a, at, la) h = absurd (h p a at)
same_last x i c None (Some q) h (b, bt, lb) = absurd (h q b bt)
same_last x i c None None h k = refl

last_only : (x : List ℕ) (i c : ℕ) (a : Option ℕ) → IsLast x i c a → a ≡ last x i c
last_only x i c a h = same_last x i c a (last x i c) h (last_is_greatest x c i)

-- a byte that stands at a place is read there
byte_there : (x : List ℕ) (c q : ℕ) → StandsAt x (c ∷ []) q → slice_get x q ≡ Some c
byte_there x c q at = at_here x q c at.rest at.here

byte_here : (x : List ℕ) (c q : ℕ) → slice_get x q ≡ Some c → StandsAt x (c ∷ []) q
byte_here x c q e =
    let w = some_here x q (slice_get_within x q c e) in
    let same : w.0 ≡ c = same_Some w.0 c (sym (at_here x q w.0 w.1 w.2) ∙ e) in
    record { within = omega (arith, slice_get_within x q c e); rest = w.1; here = w.2 ∙ ap (λ (b : ℕ). b ∷ w.1) same }

-- the byte at a place of a range
pub range_at : (x xs : List ℕ) (p k : ℕ) → xs ≡ take (length xs) (drop p x) → k < length xs → get_or xs k 0 ≡ get_or x (p + k) 0
range_at x xs p k e lt = ap (λ (ys : List ℕ). get_or ys k 0) e ∙ get_or-take (length xs) (drop p x) k 0 lt ∙ get_or-drop p x k 0

-- a range that isn't empty lies inside
pub range_inside : (x xs : List ℕ) (p : ℕ) → xs ≡ take (length xs) (drop p x) → 0 < length xs → p + length xs ≤ length x
range_inside x xs p e some = omega (arith, some, ap (λ (ys : List ℕ). length ys) e, length-take (length xs) (drop p x), length-drop p x)

-- its bytes are those of the text
range_get : (x xs : List ℕ) (p k : ℕ) → xs ≡ take (length xs) (drop p x) → k < length xs → slice_get x (p + k) ≡ Some (get_or xs k 0)
range_get x xs p k e lt = slice_get-get_or x (p + k) 0 (omega (arith, lt, range_inside x xs p e (omega (arith, lt))))
    ∙ ap (λ (b : ℕ). Some b) (sym (range_at x xs p k e lt))

pub byte_of_range : (x xs : List ℕ) (p : ℕ) → xs ≡ take (length xs) (drop p x) → 0 < length xs → slice_get x p ≡ Some (get_or xs 0 0)
byte_of_range x xs p e some = let here : p + 0 ≡ p = omega arith in rw here at (range_get x xs p 0 e some)

-- a byte of the text is one of the range that holds its place
byte_in : (x xs : List ℕ) (c p q : ℕ) → xs ≡ take (length xs) (drop p x) → p ≤ q → q < p + length xs → slice_get x q ≡ Some c →
    get_or xs (q - p) 0 ≡ c
byte_in x xs c p q e from to h =
    let m : p + (q - p) ≡ q = omega (arith, from) in
    range_at x xs p (q - p) e (omega (arith, from, to)) ∙ ap (λ (k : ℕ). get_or x k 0) m ∙ get_or_from_slice_get x q c 0 h

-- a piece has a byte nowhere that isn't found in it
none_in : (t : Table) (x : Option Node) (c p i j : ℕ) (xs : List ℕ) → IsPieceOf t x p xs → Nowhere (Passes (is_byte c) xs) i j →
    j ≤ length xs → HasNot t x c (p + i) (p + j)
none_in t x c p i j xs piece nowhere inside = λ q low to there. nowhere (q - p) (omega (arith, low)) (omega (arith, low, to))
    (eq-eqb (get_or xs (q - p) 0) c (byte_in (bytes_of t x) xs c p q piece (omega (arith, low)) (omega (arith, to, inside)) there))

-- nor has a run of another byte
none_past : {lengths : Lengths} {t : Table} {x : Option Node} {p : ℕ} {span : Span} {c n : ℕ} → IsReported lengths t →
    IsReadable lengths x → IsSpanOf x p span → IsRunWithout span c n → HasNot t x c p (p + n)
none_past {t = t} {x = x} {p = p} {span = span} {c = c} held readable h run = λ q low to there.
    let piece = span_piece held readable h in
    run.without t (q - p) (slice_get-get_or (span_bytes t span) (q - p) 0 (omega (arith, piece.1, low, to, run.len))
    ∙ ap (λ (b : ℕ). Some b) (byte_in (bytes_of t x) (span_bytes t span) c p q piece.0 low (omega (arith, piece.1, to, run.len)) there))

-- the first place of a byte
first_place : (x : List ℕ) (c i q : ℕ) → i ≤ q → slice_get x q ≡ Some c → Nowhere (λ k. slice_get x k ≡ Some c) i q →
    Some q ≡ first x i (c ∷ [])
first_place x c i q low here before =
    first_only x (c ∷ []) i (Some q) (low, byte_here x c q here, λ k from to at. before k from to (byte_there x c k at))

module _ {S D : Type 0} {s : Ghosts S} {a b d : S} {x : Option Node} {c from p : ℕ} {span : Span} {xs : Bor (List ℕ)} {r : Option ℕ}
    (none : Shows s a b (λ t. HasNot t x c from p))
    (read : IsAnswer {E = D} s b d (Ok xs) (λ piece. IsSomeOf span piece.now) (λ t piece. IsPartOf t span 0 piece.now))
    (h : IsSpanOf x p span) (fits : CordFitsIn (s.lengths a) x) (found : IsFirstByte (is_byte c) xs.now r) where
  -- a search by pieces goes on
  pub first_on : r ≡ None → Shows s a d (λ t. HasNot t x c from (p + length xs.now))
  first_on is =
      let nowhere : Nowhere (Passes (is_byte c) xs.now) 0 (length xs.now) = rw is at found in
      shown_on none read (λ t held none part. nowhere_on (λ q. slice_get (bytes_of t x) q ≡ Some c) from p (p + length xs.now) none
      (λ q low to. none_in t x c p 0 (length xs.now) xs.now (prefix_piece held h fits xs.now read.always.1 part) nowhere (omega arith) q
      (omega (arith, low)) to))

  -- and ends where the byte is found
  pub first_found : {E : Type 0} {k : ℕ} → r ≡ Some k → from ≤ p → FindsByte {E = E} s a d x from c (Ok (Some (p + k)))
  first_found {k = k} is low =
      let here : NoneBefore (Passes (is_byte c) xs.now) 0 (length xs.now) k × Passes (is_byte c) xs.now k = rw is at found in
      answered (omega (arith, low), omega (arith, here.0.high, read.always.1, h.inside)) (shown_on none read (λ t held none part.
      let piece = prefix_piece held h fits xs.now read.always.1 part in
      let text = bytes_of t x in
      first_place text c from (p + k) (omega (arith, low))
      (range_get text xs.now p k piece here.0.high ∙ ap (λ (b : ℕ). Some b) (eqb-true (get_or xs.now k 0) c here.1))
      (nowhere_on (λ q. slice_get text q ≡ Some c) from p (p + k) none
      (λ q low to. none_in t x c p 0 k xs.now piece here.0.before (omega (arith, here.0.high)) q (omega (arith, low)) to))))

module _ {S : Type 0} {s : Ghosts S} {a b : S} {x : Option Node} {c : ℕ} where
  -- also after a span that hasn't the byte
  pub first_past : {p n : ℕ} {span : Span} (from : ℕ) → Shows s a b (λ t. HasNot t x c from p) → IsSpanOf x p span →
      IsRunWithout span c n → IsReadable (s.lengths a) x → Shows s a b (λ t. HasNot t x c from (p + n))
  first_past {p} {n} from none h run readable = shown_so none (λ t held before.
      nowhere_on (λ q. slice_get (bytes_of t x) q ≡ Some c) from p (p + n) before (none_past held readable h run))

  -- or at the end of the text
  pub first_none : {E : Type 0} (from p : ℕ) → Shows s a b (λ t. HasNot t x c from p) → IsReadable (s.lengths a) x →
      text_len x ≤ p → FindsByte {E = E} s a b x from c (Ok None)
  first_none from p none readable end = answered (tt, tt) (shown_so none (λ t held before.
      let text = bytes_of t x in
      first_only text (c ∷ []) from None (λ q low at. let there = byte_there text c q at in
      before q low (omega (arith, end, len_in held readable, slice_get_within text q c there)) there)))

module _ {S D : Type 0} {s : Ghosts S} {a b d : S} {x : Option Node} {c end : ℕ} {span : Span} {xs : Bor (List ℕ)} {r : Option ℕ} (at : ℕ)
    (none : Shows s a b (λ t. HasNot t x c end (at + 1))) (read : IsAnswer {E = D} s b d (Ok xs) (λ piece. IsSomeOf span piece.now)
    (λ t piece. IsPartOf t span (span_len span - length piece.now) piece.now)) (h : IsSpanUpTo x end span)
    (fits : CordFitsIn (s.lengths a) x) (found : IsLastByte (is_byte c) xs.now r) where
  -- the same from the end on
  pub last_on : r ≡ None → Shows s a d (λ t. HasNot t x c (end - length xs.now) (at + 1))
  last_on is =
      let nowhere : Nowhere (Passes (is_byte c) xs.now) 0 (length xs.now) = rw is at found in
      let to_end : end - length xs.now + length xs.now ≡ end = omega (arith, read.always.1, h.inside) in
      shown_on none read (λ t held none part. nowhere_on (λ q. slice_get (bytes_of t x) q ≡ Some c) (end - length xs.now) end (at + 1)
      (λ q low to. none_in t x c (end - length xs.now) 0 (length xs.now) xs.now (end_piece held h fits xs.now read.always.1 part) nowhere
      (omega arith) q (omega (arith, low)) (omega (arith, to, to_end))) none)

  pub last_found : {E : Type 0} {k : ℕ} → r ≡ Some k → end ≤ at + 1 → FindsLast {E = E} s a d x at c (Ok (Some (end - length xs.now + k)))
  last_found {k = k} is high =
      let here : NoneAfter (Passes (is_byte c) xs.now) 0 (length xs.now) k × Passes (is_byte c) xs.now k = rw is at found in
      let p : ℕ = end - length xs.now in
      let to_end : p + length xs.now ≡ end = omega (arith, read.always.1, h.inside) in
      answered (omega (arith, here.0.high, to_end, high)) (shown_on none read (λ t held none part.
      let piece = end_piece held h fits xs.now read.always.1 part in
      let text = bytes_of t x in
      let later : Nowhere (λ q. slice_get text q ≡ Some c) (p + k + 1) (at + 1) = nowhere_on (λ q. slice_get text q ≡ Some c) (p + k + 1) end
      (at + 1) (λ q low to. none_in t x c p (k + 1) (length xs.now) xs.now piece here.0.after (omega arith) q (omega (arith, low))
      (omega (arith, to, to_end))) none in
      last_only text at c (Some (p + k)) (
        omega (arith, here.0.high, to_end, high),
        range_get text xs.now p k piece here.0.high ∙ ap (λ (b : ℕ). Some b) (eqb-true (get_or xs.now k 0) c here.1),
        λ q low to. later q (omega (arith, low)) (omega (arith, to)),
      )))

module _ {S : Type 0} {s : Ghosts S} {a b : S} {x : Option Node} {c : ℕ} where
  pub last_past : {end n : ℕ} {span : Span} (at : ℕ) → Shows s a b (λ t. HasNot t x c end (at + 1)) → IsSpanUpTo x end span →
      IsRunWithout span c n → IsReadable (s.lengths a) x → Shows s a b (λ t. HasNot t x c (end - n) (at + 1))
  last_past {end} {n} at none h run readable = shown_so none (λ t held after.
      nowhere_on (λ q. slice_get (bytes_of t x) q ≡ Some c) (end - n) end (at + 1) (λ q low to. none_past held readable h.span run q
      (omega (arith, low, run.len)) (omega (arith, to, run.len, h.inside))) after)

-- up to the beginning of the text
pub last_none : {S E : Type 0} {s : Ghosts S} {a b : S} (x : Option Node) (c at end : ℕ) → end ≤ 0 →
    Shows s a b (λ t. HasNot t x c end (at + 1)) → FindsLast {E = E} s a b x at c (Ok None)
last_none x c at end low none = answered tt (shown_so none (λ t held after.
    last_only (bytes_of t x) at c None (λ q to. after q (omega (arith, low)) (omega (arith, to)))))
