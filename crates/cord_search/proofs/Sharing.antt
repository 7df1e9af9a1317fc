-- What two texts share is the same in both.
use Rattle.cord_search.proofs.Common.{AreAlike, AreSame, CordFits, Ghosts, IsReadable, IsSpanOf, IsSpanPrefix, IsWay, IsWithin, List, Node, Option}
use Rattle.cord_search.proofs.Common.{Shows, Some, Span, Table, ap, arith, bytes_of, drop, drop-drop, len_of, map, span_bytes, span_len, sym, take}
use Rattle.cord_search.proofs.Common.{take-take, ℕ, ◌+◌, ◌-◌, ◌<◌, ◌∙◌, ◌≡◌, ◌≤◌}
use Rattle.cord_node.proofs.TableLemmas.{bytes-cells}
use Rattle.cord_node.specs.Tables.{Fits, byte_at, bytes_over, lengths_of}
use Rattle.cord_node.specs.Tree.{Cell, cells}
use Rattle.cord_search.proofs.Ranges.{take_on}
use Rattle.cord_search.proofs.Reading.{fits_in, shown_so}
use Rattle.cord_search.specs.declared.shared_parts.Ahead.TheVariants.{Same}
use Rattle.cord_search.specs.declared.shared_parts.Way.{Way}
use Rattle.cord_search.specs.inner.SharedParts.{IsCommonAhead}
use Rattle.cord_search.specs.inner.Spans.{BeginAlike, IsBlockOf}

-- the bytes from a place of a node are those of what is within
within_bytes : (n : Node) (place : ℕ) (m : Node) (at k : ℕ) (t : Table) → (w : IsWithin n place m at) → Fits t n → at + k ≤ len_of m →
    take k (drop place (bytes_over t n)) ≡ take k (drop at (bytes_over t m))
within_bytes n place m at k t w f h = ap (λ (j : ℕ). take k (drop j (bytes_over t n))) w.here ∙ w.text t f at k h

-- one place of two nodes that have one text
pub spots_alike : (n : Node) (i : ℕ) (m : Node) (a : ℕ) (o : Node) (j : ℕ) (l : Node) (b k : ℕ) → IsWithin n i m a → IsWithin o j l b →
    a ≡ b → len_of m ≡ len_of l → cells m ≡ cells l → a + k ≤ len_of m → AreAlike (Some n) i (Some o) j k
spots_alike n i m a o j l b k v w here long one h = λ t f g.
    let same : bytes_over t m ≡ bytes_over t l = bytes-cells t m (v.fits (lengths_of t) f) ∙ ap (λ (xs : List Cell). map (byte_at t) xs) one
    ∙ sym (bytes-cells t l (w.fits (lengths_of t) g)) in
    within_bytes n i m a k t v f h ∙ ap (λ (xs : List ℕ). take k (drop a xs)) same ∙ ap (λ (q : ℕ). take k (drop q (bytes_over t l))) here
    ∙ sym (within_bytes o j l b k t w g (omega (arith, here, long, h)))

-- the first bytes of a span
prefix : (t : Table) (c : Option Node) (place : ℕ) (s : Span) (k : ℕ) → CordFits t c → IsSpanOf c place s → k ≤ span_len s →
    take k (drop place (bytes_of t c)) ≡ take k (span_bytes t s)
prefix t c place s k f h le = sym (take-take k (span_len s) (drop place (bytes_of t c)) le)
    ∙ ap (λ (ys : List ℕ). take k ys) (sym (h.text t f))

-- spans that begin alike
pub spans_alike : {c d : Option Node} {i j : ℕ} {s other : Span} (k : ℕ) → IsSpanOf c i s → IsSpanOf d j other → BeginAlike s other →
    k ≤ span_len s → k ≤ span_len other → AreAlike c i d j k
spans_alike {c} {d} {i} {j} {s} {other} k h g alike le more = λ t f e.
    prefix t c i s k f h le ∙ alike t k le more ∙ sym (prefix t d j other k e g more)

-- the prefix of a span is one
pub prefix_span : {c : Option Node} {place k : ℕ} {s first : Span} → 0 < k → k ≤ span_len s → IsSpanOf c place s → IsSpanPrefix s k first →
    IsSpanOf c place first
prefix_span {c} {place} {k} {s} some le h f = record {
  some = omega (arith, some, f.len);
  inside = omega (arith, le, f.len, h.inside);
  fits = λ lengths held. f.fits lengths (h.fits lengths held);
  text = λ t held. f.text t ∙ sym (prefix t c place s k held h le) ∙ ap (λ (m : ℕ). take m (drop place (bytes_of t c))) (sym f.len);
}

-- and so is a block of one
pub block_span : {c : Option Node} {place : ℕ} {s block : Span} → IsBlockOf s block → IsSpanOf c place s → IsSpanOf c place block
block_span b h = prefix_span b.some b.few h b.prefix

-- where the next bytes are the same, more are
pub same_on : (t : Table) (x : Option Node) (i : ℕ) (y : Option Node) (j done n : ℕ) → AreSame t x (i + done) y (j + done) n →
    AreSame t x i y j done → AreSame t x i y j (done + n)
same_on t x i y j done n next same =
    let u = bytes_of t x in
    let v = bytes_of t y in
    take_on (drop i u) (drop j v) done n (ap (λ (ys : List ℕ). take n ys) (drop-drop done i u) ∙ next
    ∙ ap (λ (ys : List ℕ). take n ys) (sym (drop-drop done j v))) same

-- two texts were compared from two places on, each by its way: the first `done` bytes, of `most`, are the same
pub record IsComparing {S : Type 0} (s : Ghosts S) (a b : S) (x : Option Node) (i : ℕ) (way : Way) (y : Option Node) (j : ℕ)
    (other_way : Way) (most done : ℕ) : Type 0 where
  pub in_range : done ≤ most
  pub same : Shows s a b (λ t. AreSame t x i y j done)
  pub left_way : IsWay x way
  pub right_way : IsWay y other_way

-- so they are after bytes that both texts share
pub alike_on : {S : Type 0} {s : Ghosts S} {a b : S} {x y : Option Node} {i j most done : ℕ} {way next_way other_way other_next : Way} →
    IsReadable (s.lengths a) x → IsReadable (s.lengths a) y → IsComparing s a b x i way y j other_way most done →
    (n : ℕ) → IsCommonAhead x (i + done) y (j + done) (most - done) (Same n) → IsWay x next_way → IsWay y other_next →
    IsComparing s a b x i next_way y j other_next most (done + n)
alike_on {x = x} {y = y} {i = i} {j = j} {done = done} left right before n ahead way other = record {
  in_range = omega (arith, ahead.1, before.in_range);
  same = shown_so before.same (λ t held same. same_on t x i y j done n (ahead.2 t (fits_in x held left.fits)
      (fits_in y held right.fits)) same);
  left_way = way;
  right_way = other;
}
