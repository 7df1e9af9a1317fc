-- Where spans and pieces stand in the text of a cord.
use Rattle.cord_search.proofs.Common.{Bor, CordFitsIn, IsPartOf, IsPieceOf, IsReadable, IsReported, IsSpanOf, IsSpanUpTo, Lengths, List, Node, None}
use Rattle.cord_search.proofs.Common.{Option, Some, Span, Table, ap, arith, bytes_of, drop, length, length-drop, length-take, length-take-le}
use Rattle.cord_search.proofs.Common.{length_at, range_of_range, replicate, span_bytes, span_len, sym, take, take-add, take-take, take_all, take_min}
use Rattle.cord_search.proofs.Common.{ℕ, ◌++◌, ◌+◌, ◌-◌, ◌<◌, ◌∙◌, ◌≡◌, ◌≤◌}
use Rattle.std.proofs.lemmas.List.{drop-replicate, take-replicate}
use Rattle.std.specs.Prelude.{IsSomeAnd, unwrap_or}
use Rattle.cord_io.specs.declared.SourceId.{SourceId}
use Rattle.cord_pos.specs.declared.span.Span.TheVariants.{Bytes, Func, Run}
use Rattle.cord_search.proofs.Reading.{fits_in, len_in}

-- a range is its own first bytes
own_range : (xs ys : List ℕ) (k : ℕ) → xs ≡ take k ys → xs ≡ take (length xs) ys
own_range xs ys k e = e ∙ sym (take_min k ys) ∙ ap (λ (m : ℕ). take m ys) (sym (ap (λ (zs : List ℕ). length zs) e ∙ length-take k ys))

-- so many times the byte of a run
pub run_part : {s : Span} {byte len : ℕ} (t : Table) (xs : List ℕ) (i k : ℕ) → s ≡ Run byte len → i + k ≤ span_len s →
    xs ≡ replicate k byte → IsPartOf t s i xs
run_part {s = s} {byte = byte} {len = len} t xs i k is le h =
    let whole = ap span_len is in
    let inside : k ≤ len - i = omega (arith, whole, le) in
    own_range xs (drop i (span_bytes t s)) k (h ∙ sym (take-replicate k (len - i) byte inside)
    ∙ ap (λ (ys : List ℕ). take k ys) (sym (drop-replicate i len byte)) ∙ ap (λ (s : Span). take k (drop i (span_bytes t s))) (sym is))

-- bytes that were read of a source
pub func_part : {s : Span} {id : SourceId} {start len : ℕ} (t : Table) (xs : List ℕ) (from i : ℕ) → s ≡ Func id start len →
    from ≡ start + i → i + length xs ≤ span_len s → xs ≡ take (length xs) (drop from (t id.0)) → IsPartOf t s i xs
func_part {id = id} {start = start} {len = len} t xs from i is f le h =
    let whole = ap span_len is in
    h ∙ ap (λ (m : ℕ). take (length xs) (drop m (t id.0))) f
    ∙ sym (range_of_range (t id.0) i (length xs) start len (omega (arith, whole, le)))
    ∙ ap (λ (s : Span). take (length xs) (drop i (span_bytes t s))) (sym is)

-- the first bytes of a leaf
pub leaf_part : {s : Span} {bytes : Bor (List ℕ)} (t : Table) (xs : List ℕ) (n : ℕ) → s ≡ Bytes bytes → xs ≡ take n bytes.now →
    IsPartOf t s 0 xs
leaf_part {s = s} t xs n is h = own_range xs (span_bytes t s) n (h ∙ ap (λ (s : Span). take n (span_bytes t s)) (sym is))

-- all of a leaf
pub whole_part : {s : Span} {bytes : Bor (List ℕ)} (t : Table) (i : ℕ) → s ≡ Bytes bytes → i ≡ 0 → IsPartOf t s i bytes.now
whole_part {bytes = bytes} t i is z = sym (take_all (length bytes.now) bytes.now (omega arith))
    ∙ ap (λ (j : ℕ). take (length bytes.now) (drop j bytes.now)) (sym z)
    ∙ ap (λ (s : Span). take (length bytes.now) (drop i (span_bytes t s))) (sym is)

-- a span has no more bytes than its length says
pub span_whole : (t : Table) (s : Span) → take (span_len s) (span_bytes t s) ≡ span_bytes t s
span_whole t (Bytes bytes) = take_all (length bytes.now) bytes.now (omega arith)
span_whole t (Run byte len) = take-replicate len len byte (omega arith)
span_whole t (Func id start len) = take-take len len (drop start (t id.0)) (omega arith)

-- what follows is the same too
pub take_on : (u v : List ℕ) (done n : ℕ) → take n (drop done u) ≡ take n (drop done v) → take done u ≡ take done v →
    take (done + n) u ≡ take (done + n) v
take_on u v done n next same =
    take-add done n u ∙ ap (λ (zs : List ℕ). zs ++ take n (drop done u)) same ∙ ap (λ (zs : List ℕ). take done v ++ zs) next
    ∙ sym (take-add done n v)

-- what ends after a byte of a source and inside it is a range of a source that there is
pub of_source : (lengths : Lengths) (id end : ℕ) → 0 < end → end ≤ length_at lengths id → IsSomeAnd (lengths id) (λ len. end ≤ len)
of_source lengths id end some inside = at (lengths id) inside
  where
    at : (o : Option ℕ) → end ≤ unwrap_or o 0 → IsSomeAnd o (λ len. end ≤ len)
    at None h = let none : end ≤ 0 = h in absurd (omega (arith, none, some))
    at (Some len) h = h

module _ {lengths : Lengths} {t : Table} {c : Option Node} {place : ℕ} {span : Span} (held : IsReported lengths t) (h : IsSpanOf c place span)
    (fits : CordFitsIn lengths c) (xs : List ℕ) where
  -- what was read of a part of a span is a piece of the text
  pub part_piece : (i j : ℕ) → i + length xs ≤ span_len span → j ≡ place + i → IsPartOf t span i xs → IsPieceOf t c j xs
  part_piece i j inside e part =
      part ∙ ap (λ (ys : List ℕ). take (length xs) (drop i ys)) (h.text t (fits_in c held fits))
      ∙ range_of_range (bytes_of t c) i (length xs) place (span_len span) inside
      ∙ ap (λ (m : ℕ). take (length xs) (drop m (bytes_of t c))) (sym e)

  -- so is what stands at its beginning
  pub prefix_piece : length xs ≤ span_len span → IsPartOf t span 0 xs → IsPieceOf t c place xs
  prefix_piece inside part = part_piece 0 place (omega (arith, inside)) (omega arith) part

-- and at the end of one that ends at a place
pub end_piece : {lengths : Lengths} {t : Table} {c : Option Node} {end : ℕ} {span : Span} → IsReported lengths t → IsSpanUpTo c end span →
    CordFitsIn lengths c → (xs : List ℕ) → length xs ≤ span_len span → IsPartOf t span (span_len span - length xs) xs →
    IsPieceOf t c (end - length xs) xs
end_piece {end = end} {span = span} held h fits xs inside part = part_piece held h.span fits xs (span_len span - length xs)
    (end - length xs) (omega (arith, inside)) (omega (arith, inside, h.inside)) part

-- a span is a piece of the text, and as long as it says
pub span_piece : {lengths : Lengths} {t : Table} {c : Option Node} {place : ℕ} {span : Span} → IsReported lengths t → IsReadable lengths c →
    IsSpanOf c place span → IsPieceOf t c place (span_bytes t span) × (length (span_bytes t span) ≡ span_len span)
span_piece {t = t} {c = c} {place = place} {span = span} held readable h =
    let text = h.text t (fits_in c held readable.fits) in
    let rest = drop place (bytes_of t c) in (
      own_range (span_bytes t span) rest (span_len span) text,
      ap (λ (ys : List ℕ). length ys) text ∙ length-take-le (span_len span) rest
          (omega (arith, h.inside, len_in held readable, length-drop place (bytes_of t c))),
    )
