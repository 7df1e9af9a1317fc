-- Where nodes below a node, and spans of them, stand in its text.
use Rattle.cord_pos.proofs.Common.{Cat', Func, IsSound, IsWithin, Lengths, List, MAX_LEN, Node, Part, Rc, Run, Some, Span, Table, ap, arith}
use Rattle.cord_pos.proofs.Common.{bytes_over, drop, len_of, length, span_len, sym, take, ℕ, ◌+◌, ◌-◌, ◌<◌, ◌∙◌, ◌≡◌, ◌≤◌}
use Rattle.std.proofs.lemmas.List.{drop-replicate, take-replicate}
use Rattle.std.specs.Global.{Global}
use Rattle.std.specs.Prelude.{replicate}
use Rattle.cord_core.proofs.OverLemmas.{length-bytes}
use Rattle.cord_io.specs.Table.{length_at}
use Rattle.cord_io.specs.declared.SourceId.{SourceId}
use Rattle.cord_node.proofs.Ranges.{range_left, range_of_range, range_right}
use Rattle.cord_node.specs.Tables.{FitsIn, lengths_of}
use Rattle.cord_pos.specs.Spans.{IsSpanAt, SpanFitsIn, span_bytes}

-- a place of a node is one of that node
pub within_self : (n : Node) (place : ℕ) → IsSound n → IsWithin n place n place
within_self n place s = record {
  offset = 0;
  here = omega arith;
  inside = omega arith;
  sound = s;
  fits = λ lengths f. f;
  text = λ t f i k h. ap (λ (j : ℕ). take k (drop j (bytes_over t n))) (let e : 0 + i ≡ i = omega arith in e);
}

-- what is within what is within
pub within_on : (n : Node) (place : ℕ) (m : Node) (at : ℕ) (l : Node) (to : ℕ) → IsWithin n place m at → IsWithin m at l to →
    IsWithin n place l to
within_on n place m at l to v w = record {
  offset = v.offset + w.offset;
  here = omega (arith, v.here, w.here);
  inside = omega (arith, v.inside, w.inside);
  sound = w.sound;
  fits = λ lengths f. w.fits lengths (v.fits lengths f);
  text = λ t f i k h.
      let from : v.offset + w.offset + i ≡ v.offset + (w.offset + i) = omega arith in
      ap (λ (j : ℕ). take k (drop j (bytes_over t n))) from ∙ v.text t f (w.offset + i) k (omega (arith, h, w.inside))
      ∙ w.text t (v.fits (lengths_of t) f) i k h;
}

module _ (p q : Rc (Unit {0}) Global) (left right : Node) (len depth count : ℕ) (mark : List Part)
    (sound : IsSound (Cat' mark depth len p left q right count)) where
  -- a place of the left side
  pub within_left : (i : ℕ) → IsWithin (Cat' mark depth len p left q right count) i left i
  within_left i = record {
    offset = 0;
    here = omega arith;
    inside = omega (arith, sound.2);
    sound = sound.0;
    fits = λ lengths f. f.0;
    text = λ t f j k h.
        let left_len : len_of left ≡ length (bytes_over t left) = length-bytes t (Some left) sound.0 f.0 in
        let z : 0 + j ≡ j = omega arith in
        rw z (range_left (bytes_over t left) (bytes_over t right) j k (omega (arith, h, left_len)));
  }

  -- a place of the right side
  pub within_right : (i : ℕ) → len_of left ≤ i → IsWithin (Cat' mark depth len p left q right count) i right (i - len_of left)
  within_right i after = record {
    offset = len_of left;
    here = omega arith;
    inside = omega (arith, sound.2);
    sound = sound.1;
    fits = λ lengths f. f.1;
    text = λ t f j k h.
        let left_len : len_of left ≡ length (bytes_over t left) = length-bytes t (Some left) sound.0 f.0 in
        let to : len_of left + j - length (bytes_over t left) ≡ j = omega (arith, left_len) in
        range_right (bytes_over t left) (bytes_over t right) (len_of left + j) k (omega (arith, left_len))
        ∙ ap (λ (x : ℕ). take k (drop x (bytes_over t right))) to;
  }

-- a span of what is within is one of the node
within_span : (n : Node) (place : ℕ) (m : Node) (at i j : ℕ) (s : Span) (w : IsWithin n place m at) → j ≡ w.offset + i →
    IsSpanAt m i s → IsSpanAt n j s
within_span n place m at i j s w e h = record {
  some = h.some;
  inside = omega (arith, e, h.inside, w.inside);
  fits = λ lengths f. h.fits lengths (w.fits lengths f);
  text = λ t f. h.text t (w.fits (lengths_of t) f) ∙ sym (w.text t f i (span_len s) h.inside)
      ∙ ap (λ (k : ℕ). take (span_len s) (drop k (bytes_over t n))) (sym e);
}

pub span_on : (n : Node) (place : ℕ) (m : Node) (at : ℕ) (s : Span) → IsWithin n place m at → IsSpanAt m at s →
    IsSpanAt n place s
span_on n place m at s w h = within_span n place m at at place s w w.here h

pub span_back : (n : Node) (place : ℕ) (m : Node) (at i : ℕ) (s : Span) → at ≡ i + span_len s → IsWithin n place m at →
    IsSpanAt m i s → IsSpanAt n (place - span_len s) s
span_back n place m at i s e w h = within_span n place m at i (place - span_len s) s w (omega (arith, e, w.here)) h

-- a range of items of which a part has a range
pub range_span : (m : Node) (s : Span) (items : Table → List ℕ) (start len from at k : ℕ) →
    ((t : Table) → bytes_over t m ≡ take len (drop start (items t))) → len_of m ≡ len → from ≡ start + at → at + k ≤ len → 0 < k →
    span_len s ≡ k → ((t : Table) → span_bytes t s ≡ take k (drop from (items t))) →
    ((lengths : Lengths) → FitsIn lengths m → SpanFitsIn lengths s) → IsSpanAt m at s
range_span m s items start len from at k e long f h some count bytes fits = record {
  some = omega (arith, count, some);
  inside = omega (arith, count, long, h);
  fits = fits;
  text = λ t _. bytes t ∙ ap (λ (j : ℕ). take k (drop j (items t))) f ∙ sym (range_of_range (items t) at k start len h)
      ∙ ap (λ (ys : List ℕ). take k (drop at ys)) (sym (e t)) ∙ ap (λ (j : ℕ). take j (drop at (bytes_over t m))) (sym count);
}

-- a part of a run
pub run_span : (m : Node) (s : Span) (byte len at k : ℕ) → m ≡ Run byte len → at + k ≤ len → 0 < k → span_len s ≡ k →
    ((t : Table) → span_bytes t s ≡ replicate k byte) → ((lengths : Lengths) → SpanFitsIn lengths s) → IsSpanAt m at s
run_span m s byte len at k e h some count bytes fits = range_span m s (λ t. replicate len byte) 0 len at at k
    (λ t. ap (λ (n : Node). bytes_over t n) e ∙ sym (take-replicate len len byte (omega arith))) (ap len_of e) (omega arith) h some count
    (λ t. bytes t ∙ sym (take-replicate k (len - at) byte (omega (arith, h)))
    ∙ ap (λ (ys : List ℕ). take k ys) (sym (drop-replicate at len byte))) (λ lengths _. fits lengths)

-- a range of a source
pub func_span : (m : Node) (s : Span) (id : SourceId) (start len from at k : ℕ) → m ≡ Func id len start → IsSound m →
    from ≡ start + at → at + k ≤ len → 0 < k → span_len s ≡ k → ((t : Table) → span_bytes t s ≡ take k (drop from (t id.0))) →
    ((lengths : Lengths) → (from + k ≤ length_at lengths id.0) × (from + k ≤ MAX_LEN) → SpanFitsIn lengths s) → IsSpanAt m at s
func_span m s id start len from at k e sound f h some count bytes fits =
    let limit : (0 < len) × (start + len ≤ MAX_LEN) = rw e at sound in
    range_span m s (λ t. t id.0) start len from at k (λ t. ap (λ (n : Node). bytes_over t n) e) (ap len_of e) f h some count bytes
    (λ lengths held. let held' : start + len ≤ length_at lengths id.0 = rw e at held in
    fits lengths (omega (arith, held', f, h), omega (arith, limit.1, f, h)))

-- the place after it, as an end
pub within_end : (n : Node) (place : ℕ) (m : Node) (at : ℕ) → IsWithin n place m at → IsWithin n (place + 1) m (at + 1)
within_end n place m at w = record {
  offset = w.offset;
  here = omega (arith, w.here);
  inside = w.inside;
  sound = w.sound;
  fits = w.fits;
  text = w.text;
}
